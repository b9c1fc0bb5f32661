-- Those who wait, packed one after the other.
use Rattle.std.proofs.Common.{◌≡◌, ℕ, List, [], ◌∷◌, ◌++◌, Some, option_map, sym, ap, subst, ◌∙◌, append_assoc, inl, inr}
use Rattle.std.specs.List.{flat_map, AllByRecursion}
use Rattle.std.proofs.lemmas.Bool.{cases_eq, eq-eqb, ne_eqb}
use Rattle.std.proofs.lemmas.List.{append-nil}
use Rattle.std.proofs.lemmas.List.Concat.{flat_map-append, flat_map-cons}
use Rattle.index_links.specs.Nodes.{Node, node_at}
use Rattle.waiting_model.specs.declared.callers.Waiting.{Waiting}
use Rattle.sysv_sem.specs.Body.{waiter_field, HasWaiterRanges}
use Rattle.sysv_sem.specs.Waiters.{waiters_in}
use Rattle.sysv_sem.proofs.Kept.{all_behind}

-- so many were packed behind what was there before
abbrev pub ArePacked : List ℕ → List ℕ → List Waiting → Type 0
ArePacked before out ws = (out ≡ before ++ flat_map waiter_field ws) × AllByRecursion HasWaiterRanges ws

pub packs_none : (out : List ℕ) → ArePacked out out []
packs_none out = (sym (append-nil out), tt)

-- one more was packed
pub packs_further : (before out more : List ℕ) (w : Waiting) → more ≡ out ++ waiter_field w → HasWaiterRanges w
    → (ws : List Waiting) → ArePacked before out ws → ArePacked before more (ws ++ w ∷ [])
packs_further before out more w is range ws h =
    let fields : List ℕ = flat_map waiter_field ws in
    let all : flat_map waiter_field (ws ++ w ∷ []) ≡ fields ++ waiter_field w =
    flat_map-append waiter_field ws (w ∷ [])
    ∙ ap (λ (r : List ℕ). fields ++ r) (flat_map-cons waiter_field w [] ∙ append-nil (waiter_field w)) in (
      is
          ∙ (ap (λ (r : List ℕ). r ++ waiter_field w) h.0
          ∙ (append_assoc before fields (waiter_field w) ∙ ap (λ (r : List ℕ). before ++ r) (sym all))),
      all_behind HasWaiterRanges ws w h.1 range,
    )

-- what holds of all who wait holds of the one in a slot
pub each_there : (P : Waiting → Type 0) (slot : ℕ) (w : Waiting) (nodes : List (Node Waiting))
    → AllByRecursion P (waiters_in nodes)
    → option_map (λ (n : Node Waiting). n.value) (node_at slot nodes) ≡ Some w → P w
each_there P slot w [] all is = absurd (cc)
each_there P slot w (n ∷ ns) all is =
    elim (cases_eq n.slot slot) [
      | inl same ↦
          let one : Some n.value ≡ Some w = rw (eq-eqb n.slot slot same) at is in
          let value : n.value ≡ w = cc in
          subst P value all.0
      | inr other ↦ each_there P slot w ns all.1 (rw (ne_eqb n.slot slot other) at is)
    ]
