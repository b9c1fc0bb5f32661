-- Those who are left where one is taken out, or all are, and sets at which nobody waits.
use Rattle.std.proofs.Common.{◌≡◌, ◌∙◌, ◌≤◌, ℕ, ◌+◌, Bool, true, false, not, ◌&&◌, ◌||◌, nat_eq, cond, List, [], ◌∷◌, ◌++◌, map, length, find, Option, Some, None, option_map, refl, sym, ap, subst, arith}
use Rattle.std.specs.List.{filter, list_any, AllByRecursion, count_by}
use Rattle.std.proofs.lemmas.List.Elements.{filter-append}
use Rattle.std.proofs.lemmas.List.Folds.{find-append, list_any-append}
use Rattle.std.proofs.lemmas.List.Sums.{fold-append}
use Rattle.std.proofs.lemmas.Bool.{eq-eqb, eqb-true}
use Rattle.std.proofs.lemmas.List.{append-nil, length-append}
use Rattle.index_links.specs.Chains.{HaveOwnSlots}
use Rattle.index_links.specs.Nodes.{Node, node_at, without, first_slot}
use Rattle.kernel_model.specs.SemaphoreSet.{SemaphoreSet}
use Rattle.waiting_model.specs.declared.callers.Waiting.{Waiting}
use Rattle.waiting_model.specs.declared.callers.Wake.{Wake}
use Rattle.waiting_model.specs.Waiters.{Awaited, awaited, without_waiter}
use Rattle.waiting_model.specs.SemaphoreSet.{try_set}
use Rattle.sysv_sem.specs.Limits.{IsWithinLimits}
use Rattle.sysv_sem.specs.Waiters.{held, is_asked, waiters_in, IsAskedAt, LackProcess, HaveOwnProcesses, IsAtRest}
use Rattle.sysv_sem.proofs.Kept.{all_filtered, may_filtered}
use Rattle.sysv_sem.proofs.Walk.{Reached, stands_next, its_value, waiters_parts, waiters_left, without_first}

-- ---- looking for a process

-- none so far, nor this one
pub none_further : (test : Waiting → Bool) (w : Waiting) → test w ≡ false → (ws : List Waiting)
    → list_any test ws ≡ false → list_any test (ws ++ w ∷ []) ≡ false
none_further test w fails ws none = rw (list_any-append test ws (w ∷ []), none, fails) refl

-- this one is it
pub any_there : (test : Waiting → Bool) (nodes : List (Node Waiting)) (P : List Waiting → Type 0) (at : Option ℕ)
    (count slot : ℕ) (w : Waiting) → HaveOwnSlots nodes → at ≡ Some slot
    → option_map (λ (n : Node Waiting). n.value) (node_at slot nodes) ≡ Some w → test w ≡ true
    → Reached nodes P at count → list_any test (waiters_in nodes) ≡ true
any_there test nodes P at count slot w own is value holds r =
    let s = stands_next nodes P at count slot own is r in
    let parts = waiters_parts nodes r.done slot w s (its_value nodes r.done slot w s value) in
    rw (parts, list_any-append test (waiters_in r.done) (w ∷ waiters_in s.rest), holds)
    (true_behind (list_any test (waiters_in r.done)))
  where
    true_behind : (b : Bool) → (b || true) ≡ true
    true_behind true = refl
    true_behind false = refl

-- ---- looking for a process and a ticket

-- none was found so far, nor is it this one
pub not_found_further : (test : Waiting → Bool) (w : Waiting) → test w ≡ false → (ws : List Waiting)
    → find test ws ≡ None → find test (ws ++ w ∷ []) ≡ None
not_found_further test w fails ws none = rw (find-append test ws (w ∷ []), none, fails) refl

-- this one is the first that was asked for
pub asked_there : (pid ticket : ℕ) (nodes : List (Node Waiting)) (at : Option ℕ) (count slot : ℕ) (w : Waiting)
    → HaveOwnSlots nodes → at ≡ Some slot
    → option_map (λ (n : Node Waiting). n.value) (node_at slot nodes) ≡ Some w → is_asked pid ticket w ≡ true
    → Reached nodes (λ ws. find (is_asked pid ticket) ws ≡ None) at count → IsAskedAt pid ticket nodes slot
asked_there pid ticket nodes at count slot w own is value holds r =
    let s = stands_next nodes (λ ws. find (is_asked pid ticket) ws ≡ None) at count slot own is r in
    let parts = waiters_parts nodes r.done slot w s (its_value nodes r.done slot w s value) in
    let none = r.so_far in
    record {
      waiter = w;
      before = waiters_in r.done;
      after = waiters_in s.rest;
      found = rw (
        parts,
        find-append (is_asked pid ticket) (waiters_in r.done) (w ∷ waiters_in s.rest),
        none,
        holds,
      ) refl;
      at = value;
      parts = parts;
      left = waiters_left nodes r.done slot s;
    }

-- ---- without it

eq_other : (m n : ℕ) → nat_eq m n ≡ false → nat_eq n m ≡ false
eq_other m n other = grind arith

all_at : (P : Waiting → Type 0) (vs : List Waiting) (w : Waiting) (after : List Waiting)
    → AllByRecursion P (vs ++ w ∷ after) → P w
all_at P [] w after h = h.0
all_at P (v ∷ vs) w after h = all_at P vs w after h.1

lack_before : (before : List Waiting) (w : Waiting) (after : List Waiting) → HaveOwnProcesses (before ++ w ∷ after)
    → LackProcess w.pid before
lack_before [] w after h = tt
lack_before (v ∷ vs) w after h = (
  eq_other v.pid w.pid (all_at (λ x. nat_eq v.pid x.pid ≡ false) vs w after h.0),
  lack_before vs w after h.1,
)

lack_after : (before : List Waiting) (w : Waiting) (after : List Waiting) → HaveOwnProcesses (before ++ w ∷ after)
    → LackProcess w.pid after
lack_after [] w after h = h.0
lack_after (v ∷ vs) w after h = lack_after vs w after h.1

all_stay : (pid : ℕ) (ws : List Waiting) → LackProcess pid ws → filter (λ w. not (nat_eq pid w.pid)) ws ≡ ws
all_stay pid [] h = refl
all_stay pid (w ∷ ws) h = rw h.0 (ap (λ (vs : List Waiting). w ∷ vs) (all_stay pid ws h.1))

one_left_out : (pid : ℕ) (before : List Waiting) (w : Waiting) (after : List Waiting) → nat_eq pid w.pid ≡ true
    → pid ≡ w.pid → HaveOwnProcesses (before ++ w ∷ after)
    → filter (λ w. not (nat_eq pid w.pid)) (before ++ w ∷ after) ≡ before ++ after
one_left_out pid before w after holds is own =
    let front : LackProcess pid before = rw is (lack_before before w after own) in
    let back : LackProcess pid after = rw is (lack_after before w after own) in
    filter-append (λ w. not (nat_eq pid w.pid)) before (w ∷ after)
    ∙ rw (all_stay pid before front, holds, all_stay pid after back) refl

first_true : (a b : Bool) → (a && b) ≡ true → a ≡ true
first_true true b e = refl
first_true false b e = absurd (cc)

passes : (test : Waiting → Bool) (ws : List Waiting) (w : Waiting) → find test ws ≡ Some w → test w ≡ true
passes test [] w e = absurd (cc)
passes test (v ∷ vs) w e = either_one test v vs w (test v) refl (λ f. passes test vs w f) e
  where
    either_one : (test : Waiting → Bool) (v : Waiting) (vs : List Waiting) (w : Waiting) (b : Bool) → test v ≡ b
        → (find test vs ≡ Some w → test w ≡ true) → cond b (Some v) (find test vs) ≡ Some w → test w ≡ true
    either_one test v vs w true is rest e =
        let same : v ≡ w = cc in subst (λ (x : Waiting). test x ≡ true) same is
    either_one test v vs w false is rest e = rest e

asked_pid : (pid ticket : ℕ) (nodes : List (Node Waiting)) (slot : ℕ) → (a : IsAskedAt pid ticket nodes slot)
    → nat_eq pid a.waiter.pid ≡ true
asked_pid pid ticket nodes slot a =
    first_true (nat_eq pid a.waiter.pid) (nat_eq ticket a.waiter.ticket)
    (passes (is_asked pid ticket) (waiters_in nodes) a.waiter a.found)

-- what is left is the set without the process
pub left_without : (pid ticket : ℕ) (set : SemaphoreSet) (nodes left : List (Node Waiting)) (slot : ℕ)
    → IsAskedAt pid ticket nodes slot → HaveOwnProcesses (waiters_in nodes) → left ≡ without slot nodes
    → held set left ≡ without_waiter pid (held set nodes)
left_without pid ticket set nodes left slot a own is =
    let holds = asked_pid pid ticket nodes slot a in
    let parts = a.parts in
    let gone : filter (λ w. not (nat_eq pid w.pid)) (waiters_in nodes) ≡ a.before ++ a.after =
    rw parts (one_left_out pid a.before a.waiter a.after holds (eqb-true pid a.waiter.pid holds)
    (subst HaveOwnProcesses parts own)) in
    ap (awaited set) (ap waiters_in is ∙ (a.left ∙ sym gone))

-- and it is at rest
pub rests_without : (pid : ℕ) (set : Awaited SemaphoreSet) → IsAtRest set → IsAtRest (without_waiter pid set)
rests_without pid set h =
    record {
      limits = h.limits;
      waiters = may_filtered (λ w. not (nat_eq pid w.pid)) set.waiters h.waiters;
      settled = all_filtered (λ w. try_set set.state w.pid w.call ≡ None) (λ w. not (nat_eq pid w.pid)) set.waiters
          h.settled;
    }

-- a set at which nobody waits
pub rests_alone : (set : SemaphoreSet) (ws : List Waiting) → IsWithinLimits set → ws ≡ [] → IsAtRest (awaited set ws)
rests_alone set ws limits none =
    subst (λ (vs : List Waiting). IsAtRest (awaited set vs)) (sym none)
    (record { limits = limits; waiters = record { few = omega arith; each = tt; apart = tt }; settled = tt })

-- ---- all are taken out, the first first

-- so many were told, and the rest is left
pub record Refused (tell : Waiting → Wake) (all now : List (Node Waiting)) (told : List Wake) (count : ℕ) : Type 0 where
  pub whole : told ++ map tell (waiters_in now) ≡ map tell (waiters_in all)
  pub counted : length now + count ≡ length all
  pub many : length told ≡ count

pub refused_none : (tell : Waiting → Wake) (all : List (Node Waiting)) (told : List Wake) → told ≡ []
    → Refused tell all all told 0
refused_none tell all told none =
    record {
      whole = rw none refl;
      counted = omega arith;
      many = rw none refl;
    }

regroup : {X : Type 0} (xs : List X) (x : X) (ys : List X) → (xs ++ x ∷ []) ++ ys ≡ xs ++ x ∷ ys
regroup [] x ys = refl
regroup (z ∷ xs) x ys = ap (λ zs. z ∷ zs) (regroup xs x ys)

first_value : (n : Node Waiting) (ns : List (Node Waiting))
    → option_map (λ (m : Node Waiting). m.value) (node_at n.slot (n ∷ ns)) ≡ Some n.value
first_value n ns = rw (eq-eqb n.slot n.slot refl) refl

more_refused : (tell : Waiting → Wake) (all ns : List (Node Waiting)) (n : Node Waiting) (told : List Wake) (count : ℕ)
    → Refused tell all (n ∷ ns) told count → Refused tell all ns (told ++ tell n.value ∷ []) (count + 1)
more_refused tell all ns n told count r =
    let counted = r.counted in
    let many = r.many in
    record {
      whole = regroup told (tell n.value) (map tell (waiters_in ns)) ∙ r.whole;
      counted = omega (arith, counted);
      many = omega (arith, many, length-append told (tell n.value ∷ []));
    }

pub refused_more : (tell : Waiting → Wake) (all now next : List (Node Waiting)) (told more : List Wake) (count : ℕ)
    (first : Option ℕ) (slot : ℕ) (w : Waiting) → first ≡ first_slot now → first ≡ Some slot
    → option_map (λ (n : Node Waiting). n.value) (node_at slot now) ≡ Some w → next ≡ without slot now
    → more ≡ told ++ tell w ∷ [] → Refused tell all now told count → Refused tell all next more (count + 1)
refused_more tell all [] next told more count first slot w is some value left goes r = absurd (cc)
refused_more tell all (n ∷ ns) next told more count first slot w is some value left goes r =
    let slot_is : slot ≡ n.slot = cc in
    let found : Some n.value ≡ Some w =
    sym (first_value n ns) ∙ (ap (λ (k : ℕ). option_map (λ (m : Node Waiting). m.value) (node_at k (n ∷ ns)))
    (sym slot_is) ∙ value) in
    let same : n.value ≡ w = cc in
    let next_is : next ≡ ns = left ∙ (ap (λ (k : ℕ). without k (n ∷ ns)) slot_is ∙ without_first n ns) in
    let more_is : more ≡ told ++ tell n.value ∷ [] =
    goes ∙ ap (λ (v : Waiting). told ++ tell v ∷ []) (sym same) in
    rw (next_is, more_is) (more_refused tell all ns n told count r)

nothing_left : (now all : List (Node Waiting)) (count : ℕ) → length all ≤ count → length now + count ≡ length all
    → now ≡ []
nothing_left [] all count le counted = refl
nothing_left (n ∷ ns) all count le counted = absurd (omega (arith, le, counted))

first_none : (now : List (Node Waiting)) → None ≡ first_slot now → now ≡ []
first_none [] e = refl
first_none (n ∷ ns) e = absurd (cc)

-- at the end all were told
told_all : (tell : Waiting → Wake) (all now : List (Node Waiting)) (told : List Wake) (count : ℕ) → now ≡ []
    → Refused tell all now told count → (told ≡ map tell (waiters_in all)) × (now ≡ [])
told_all tell all now told count none r = (
  sym (append-nil told)
      ∙ (ap (λ (ns : List (Node Waiting)). told ++ map tell (waiters_in ns)) (sym none) ∙ r.whole),
  none,
)

pub refused_all : (tell : Waiting → Wake) (all now : List (Node Waiting)) (told : List Wake) (count : ℕ)
    → length all ≤ count → Refused tell all now told count → (told ≡ map tell (waiters_in all)) × (now ≡ [])
refused_all tell all now told count le r =
    told_all tell all now told count (nothing_left now all count le r.counted) r

pub refused_ends : (tell : Waiting → Wake) (all now : List (Node Waiting)) (told : List Wake) (count : ℕ)
    (first : Option ℕ) → first ≡ first_slot now → first ≡ None → Refused tell all now told count
    → (told ≡ map tell (waiters_in all)) × (now ≡ [])
refused_ends tell all now told count first is none r =
    told_all tell all now told count (first_none now (sym none ∙ is)) r

-- ---- counting

-- one more is counted, or not
pub counts_further : (test : Waiting → Bool) (w : Waiting) (n m : ℕ) → m ≡ cond (test w) 1 0 → (ws : List Waiting)
    → n ≡ count_by test ws → n + m ≡ count_by test (ws ++ w ∷ [])
counts_further test w n m one ws counted =
    rw (counted, one) (sym (fold-append (λ (a : ℕ) (v : Waiting). a + cond (test v) 1 0) 0 ws (w ∷ [])))
