-- The first seat on its way to having the shares of all others.
use Rattle.std.proofs.Common.{◌≡◌, ℕ, ◌+◌, false, List, [], ◌∷◌, ◌++◌, map, length, sym, refl, ap, ◌∙◌, subst, length-append, append_assoc, append-nil, arith}
use Rattle.atomic_table.specs.Seated.{TableId}
use Rattle.journal_core.specs.declared.view.Share.{Share}
use Rattle.journal_core.specs.declared.view.View.{View}
use Rattle.journal_core.specs.Rule.{with_share}
use Rattle.journal_core.specs.Seated.{Seated, AreNumbered, AreNew}
use Rattle.journal_core.specs.Turns.{share_of, HasGathered}

-- with the shares of the seats that are left, the first seat v has the shares of all
pub record Gathers (table : TableId) (v : View) (left all : List Seated) : Type 0 where
  pub first : Seated
  pub others : List Seated
  pub all_are : all ≡ first ∷ others
  pub number : v.number ≡ 1
  pub idle : v.taken ≡ false
  pub own : v.own ≡ first.own
  pub seen : v.seen ≡ first.seen
  pub shares : v.joined ++ map share_of left ≡ map share_of others
  pub numbered : AreNumbered table (length v.joined + 2) left

-- none is joined yet
pub gathers_first : (table : TableId) (v : View) (first : Seated) (others all : List Seated)
    → all ≡ first ∷ others → AreNumbered table 1 all → v.number ≡ first.number → v.taken ≡ false → v.joined ≡ []
    → v.own ≡ first.own → v.seen ≡ first.seen
    → Gathers table v others all
gathers_first table v first others all are numbered number idle joined own seen =
    let each : AreNumbered table 1 (first ∷ others) = subst (AreNumbered table 1) are numbered in
    record {
      first = first;
      others = others;
      all_are = are;
      number = number ∙ each.1;
      idle = idle;
      own = own;
      seen = seen;
      shares = ap (λ j. j ++ map share_of others) joined;
      numbered = subst (λ n. AreNumbered table n others)
          (let n : length v.joined ≡ 0 = ap length joined in omega arith) each.2;
    }

-- one more is joined
pub gathers_next : (table : TableId) (v w : View) (s : Seated) (left all : List Seated) → w.own ≡ s.own
    → w.seen ≡ s.seen → Gathers table v (s ∷ left) all → Gathers table (with_share v w) left all
gathers_next table v w s left all own seen g =
    let share : Share = record { own = w.own; seen = w.seen } in
    let same : share ≡ share_of s = λ i. record { own = own i; seen = seen i } in
    record {
      first = g.first;
      others = g.others;
      all_are = g.all_are;
      number = g.number;
      idle = g.idle;
      own = g.own;
      seen = g.seen;
      shares = append_assoc v.joined (share ∷ []) (map share_of left)
          ∙ (ap (λ x. v.joined ++ x ∷ map share_of left) same ∙ g.shares);
      numbered = subst (λ n. AreNumbered table n left)
          (let n : length (v.joined ++ share ∷ []) ≡ length v.joined + 1 = length-append v.joined (share ∷ []) in omega
          arith) g.numbered.2;
    }

-- all are joined
pub gathered_all : (table : TableId) (v : View) (all : List Seated) → Gathers table v [] all → HasGathered v all
gathered_all table v all g =
    subst (HasGathered v) (sym g.all_are) (g.number, g.idle, g.own, g.seen, sym (append-nil v.joined) ∙ g.shares)

-- the numbers go on behind those that are there
pub numbered_behind : (table : TableId) (n : ℕ) (xs : List Seated) (s : Seated) → AreNumbered table n xs
    → s.lock ≡ table → s.number ≡ n + length xs → AreNumbered table n (xs ++ s ∷ [])
numbered_behind table n [] s h lock number = (lock, (let m : s.number ≡ n + 0 = number in omega arith), tt)
numbered_behind table n (x ∷ xs) s h lock number = (h.0, h.1, numbered_behind table (n + 1) xs s h.2 lock (omega arith))

-- one new seat more
pub new_behind : (xs : List Seated) (s : Seated) → AreNew xs → s.own ≡ [] → s.seen ≡ [] → AreNew (xs ++ s ∷ [])
new_behind [] s h own seen = (own, seen, tt)
new_behind (x ∷ xs) s h own seen = (h.0, h.1, new_behind xs s h.2 own seen)

-- a list of no length
pub nothing_left : (xs : List Seated) → length xs ≡ 0 → xs ≡ []
nothing_left [] none = refl
nothing_left (x ∷ xs) none = absurd (omega arith)
