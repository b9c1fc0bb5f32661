-- Events that stand by rising node and stamp: their nodes' logs may be merged.
use Rattle.std.proofs.Common.{◌≡◌, ◌≢◌, ℕ, zero, suc, ◌+◌, ◌<◌, ◌≤◌, Bool, true, false, cond, ◌&&◌, leb, eqb, List, [], ◌∷◌, ◌++◌, map, Option, Some, None, refl, sym, ap, subst, ◌∙◌, inl, inr, arith}
use Rattle.std.specs.Prelude.{◌⊎◌, ⊤}
use Rattle.std.specs.List.{AllByRecursion}
use Rattle.std.proofs.lemmas.Bool.{cases_eq, eq-eqb, ne_eqb, le-leb}
use Rattle.stamp_merge.specs.declared.Stamped.{Stamped}
use Rattle.stamp_merge.specs.Merge.{StampsRise, IsOfOneNode, ShareNoNode, HaveOwnNodes, items_of}
use Rattle.stamp_merge.proofs.Filters.{all-map}
use Rattle.stamp_merge.proofs.Merges.{own-item, others-item}
use Rattle.world_model.specs.World.{numbers}
use Rattle.image_text.specs.declared.placed.Placed.{Placed}
use Rattle.image_text.specs.Image.{max_node}
use Rattle.image_text.specs.Order.{falls, fall_behind, first_fall, NodesRise, logs_of}

-- of a lower node, or of the same at a lower stamp
abbrev pub IsUnder : Stamped Placed → Stamped Placed → Type 0
IsUnder e f = (e.node < f.node) ⊎ ((e.node ≡ f.node) × (e.stamp < f.stamp))

under-far : (e f g : Stamped Placed) → IsUnder e f → IsUnder f g → IsUnder e g
under-far e f g (inl a) (inl b) = inl (omega arith)
under-far e f g (inl a) (inr b) = let same : f.node ≡ g.node = b.0 in inl (omega arith)
under-far e f g (inr a) (inl b) = let same : e.node ≡ f.node = a.0 in inl (omega arith)
under-far e f g (inr a) (inr b) =
    let low : e.stamp < f.stamp = a.1 in let high : f.stamp < g.stamp = b.1 in inr (a.0 ∙ b.0, omega arith)

-- each is under those behind it
abbrev pub AllRise : List (Stamped Placed) → Type 0
AllRise [] = ⊤
AllRise (e ∷ events) = AllByRecursion (IsUnder e) events × AllRise events

-- ---- where none falls, all rise

under-next : (e f : Stamped Placed) → e.node ≤ f.node → falls e f ≡ false → IsUnder e f
under-next e f low fine = elim (cases_eq f.node e.node) [
  | inl same ↦
      elim (cases_leb f.stamp e.stamp) [
        | inl le ↦
            let both : falls e f ≡ true = rw (eq-eqb f.node e.node same, le-leb f.stamp e.stamp le) refl in
            absurd cc
        | inr gt ↦ inr (sym same, gt)
      ]
  | inr other ↦ inl (omega arith)
]
  where
    cases_leb : (a b : ℕ) → (a ≤ b) ⊎ (b < a)
    cases_leb a b = grind arith

none-first : (b : Bool) (line : ℕ) (o : Option ℕ) → cond b (Some line) o ≡ None → (b ≡ false) × (o ≡ None)
none-first true line o h = absurd cc
none-first false line o h = (refl, h)

-- where no event falls behind another, all rise
pub all-rise : (e : Stamped Placed) (events : List (Stamped Placed)) → NodesRise e.node events
    → fall_behind e events ≡ None → AllRise (e ∷ events)
unfolding fall_behind
all-rise e [] nodes none = (tt, tt)
all-rise e (f ∷ events) nodes none =
    let parts = none-first (falls e f) f.item.line (fall_behind f events) none in
    let rest = all-rise f events nodes.2 parts.1 in
    let first = under-next e f nodes.0 parts.0 in
    ((first, all-map (λ (g : Stamped Placed) u. under-far e f g first u) events rest.0), rest)

-- so all events rise
pub rise-from : (low : ℕ) (events : List (Stamped Placed)) → NodesRise low events → first_fall events ≡ None
    → AllRise events
unfolding first_fall
rise-from low [] nodes none = tt
rise-from low (e ∷ events) nodes none = all-rise e events nodes.2 none

-- ---- a node's events

node-stamps : (e : Stamped Placed) (events : List (Stamped Placed)) (p : ℕ) → e.node ≡ p
    → AllByRecursion (IsUnder e) events → AllByRecursion (λ (f : Stamped Placed). e.stamp < f.stamp) (items_of p events)
node-stamps e [] p own all = tt
node-stamps e (f ∷ events) p own all = elim (cases_eq f.node p) [
  | inl same ↦
      subst (AllByRecursion (λ (g : Stamped Placed). e.stamp < g.stamp)) (sym (own-item f events p same))
      (stamp all.0 same, node-stamps e events p own all.1)
  | inr other ↦
      subst (AllByRecursion (λ (g : Stamped Placed). e.stamp < g.stamp)) (sym (others-item f events p other))
      (node-stamps e events p own all.1)
]
  where
    stamp : IsUnder e f → f.node ≡ p → e.stamp < f.stamp
    stamp (inl low) same = absurd (omega arith)
    stamp (inr high) same = high.1

-- the stamps of one node rise
pub log-rises : (p : ℕ) (events : List (Stamped Placed)) → AllRise events → StampsRise (items_of p events)
log-rises p [] rise = tt
log-rises p (e ∷ events) rise = elim (cases_eq e.node p) [
  | inl same ↦
      subst StampsRise (sym (own-item e events p same))
      (node-stamps e events p same rise.0, log-rises p events rise.1)
  | inr other ↦ subst StampsRise (sym (others-item e events p other)) (log-rises p events rise.1)
]

logs-rise-from : (first n : ℕ) (events : List (Stamped Placed)) → AllRise events
    → AllByRecursion StampsRise (map (λ p. items_of p events) (numbers first n))
logs-rise-from first zero events rise = tt
logs-rise-from first (suc n) events rise = (log-rises first events rise, logs-rise-from (first + 1) n events rise)

-- the stamps of each log rise
pub logs-rise : (events : List (Stamped Placed)) → AllRise events → AllByRecursion StampsRise (logs_of events)
unfolding logs_of
logs-rise events rise = logs-rise-from 1 max_node events rise

-- ---- each log is of its own node

all-of : (p : ℕ) (events : List (Stamped Placed)) → AllByRecursion (λ (e : Stamped Placed). e.node
    ≡ p) (items_of p events)
all-of p [] = tt
all-of p (e ∷ events) = elim (cases_eq e.node p) [
  | inl same ↦
      subst (AllByRecursion (λ (f : Stamped Placed). f.node ≡ p)) (sym (own-item e events p same))
      (same, all-of p events)
  | inr other ↦
      subst (AllByRecursion (λ (f : Stamped Placed). f.node ≡ p)) (sym (others-item e events p other)) (all-of p events)
]

one-node : (p : ℕ) (log : List (Stamped Placed)) → AllByRecursion (λ (e : Stamped Placed). e.node ≡ p) log
    → IsOfOneNode log
one-node p [] all = tt
one-node p (e ∷ log) all = all-map (λ (f : Stamped Placed) (is : f.node ≡ p). is ∙ sym all.0) log all.1

share-none : (p q : ℕ) (log other : List (Stamped Placed)) → p < q
    → AllByRecursion (λ (e : Stamped Placed). e.node ≡ p) log
    → AllByRecursion (λ (e : Stamped Placed). e.node ≡ q) other → ShareNoNode log other
share-none p q log other less own others =
    all-map (λ (e : Stamped Placed) (is : e.node ≡ p).
    all-map {Q = λ (f : Stamped Placed). f.node ≢ e.node} (λ (f : Stamped Placed) (at : f.node
    ≡ q) same. absurd (omega arith)) other others)
    log own

later-share : (p first n : ℕ) (events : List (Stamped Placed)) → p < first
    → AllByRecursion (ShareNoNode (items_of p events)) (map (λ q. items_of q events) (numbers first n))
later-share p first zero events less = tt
later-share p first (suc n) events less = (
  share-none p first (items_of p events) (items_of first events) less (all-of p events) (all-of first events),
  later-share p (first + 1) n events (omega arith),
)

own-nodes-from : (first n : ℕ) (events : List (Stamped Placed))
    → HaveOwnNodes (map (λ p. items_of p events) (numbers first n))
own-nodes-from first zero events = tt
own-nodes-from first (suc n) events = (
  one-node first (items_of first events) (all-of first events),
  later-share first (first + 1) n events (omega arith),
  own-nodes-from (first + 1) n events,
)

-- each log is of a node of its own
pub own-nodes : (events : List (Stamped Placed)) → HaveOwnNodes (logs_of events)
unfolding logs_of
own-nodes events = own-nodes-from 1 max_node events
