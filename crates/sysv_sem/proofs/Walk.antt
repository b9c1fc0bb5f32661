-- Those who wait, gone through from each slot to the next.
use Rattle.std.proofs.Common.{◌≡◌, ℕ, ◌+◌, ◌≤◌, List, [], ◌∷◌, ◌++◌, length, Option, Some, None, option_map, refl, sym, ap, subst, ◌∙◌, append_assoc, arith}
use Rattle.std.specs.List.{AllByRecursion}
use Rattle.std.proofs.lemmas.Bool.{eq-eqb, ne_eqb}
use Rattle.std.proofs.lemmas.List.{append-nil, length-append, map-append}
use Rattle.std.specs.Prelude.{◌≢◌}
use Rattle.index_links.specs.Chains.{LackSlot, HaveOwnSlots}
use Rattle.index_links.specs.Nodes.{Node, IsThere, node_at, without, first_slot, slot_after}
use Rattle.waiting_model.specs.declared.callers.Waiting.{Waiting}
use Rattle.sysv_sem.specs.Waiters.{waiters_in}

abbrev Nodes : Type 0
Nodes = List (Node Waiting)

-- ---- a node behind others, none of which has its slot

all_at : {X : Type 0} (P : X → Type 0) (xs : List X) (y : X) (ys : List X) → AllByRecursion P (xs ++ y ∷ ys) → P y
all_at P [] y ys h = h.0
all_at P (x ∷ xs) y ys h = all_at P xs y ys h.1

-- where each has a slot of its own none before a node has its slot
own_before : (before : Nodes) (n : Node Waiting) (after : Nodes) → HaveOwnSlots (before ++ n ∷ after)
    → LackSlot n.slot before
own_before [] n after own = tt
own_before (m ∷ ms) n after own =
    let other : n.slot ≢ m.slot = all_at (λ (k : Node Waiting). k.slot ≢ m.slot) ms n after own.0 in
    ((λ e. other (sym e)), own_before ms n after own.1)

found_behind : (before : Nodes) (n : Node Waiting) (after : Nodes) → LackSlot n.slot before
    → node_at n.slot (before ++ n ∷ after) ≡ Some n
found_behind [] n after lack = rw (eq-eqb n.slot n.slot refl) refl
found_behind (m ∷ ms) n after lack = rw (ne_eqb m.slot n.slot lack.0) (found_behind ms n after lack.1)

without_behind : (before : Nodes) (n : Node Waiting) (after : Nodes) → LackSlot n.slot before
    → without n.slot (before ++ n ∷ after) ≡ before ++ after
without_behind [] n after lack = rw (eq-eqb n.slot n.slot refl) refl
without_behind (m ∷ ms) n after lack =
    rw (ne_eqb m.slot n.slot lack.0) (ap (λ (ns : Nodes). m ∷ ns) (without_behind ms n after lack.1))

next_behind : (before : Nodes) (n : Node Waiting) (after : Nodes) → LackSlot n.slot before
    → slot_after n.slot (before ++ n ∷ after) ≡ first_slot after
next_behind [] n after lack = rw (eq-eqb n.slot n.slot refl) refl
next_behind (m ∷ ms) n after lack = rw (ne_eqb m.slot n.slot lack.0) (next_behind ms n after lack.1)

-- without its first the list is its rest
pub without_first : (n : Node Waiting) (ns : Nodes) → without n.slot (n ∷ ns) ≡ ns
without_first n ns = rw (eq-eqb n.slot n.slot refl) refl

-- ---- what a slot shows that is the next one

pub record StandsAt (nodes done : Nodes) (slot : ℕ) : Type 0 where
  pub node : Node Waiting
  pub rest : Nodes
  pub parts : nodes ≡ done ++ node ∷ rest
  pub found : node_at slot nodes ≡ Some node
  pub after : slot_after slot nodes ≡ first_slot rest
  pub left : without slot nodes ≡ done ++ rest

stands : (nodes done left : Nodes) (slot : ℕ) → HaveOwnSlots nodes → nodes ≡ done ++ left
    → Some slot ≡ first_slot left → StandsAt nodes done slot
stands nodes done [] slot own parts next = absurd (cc)
stands nodes done (n ∷ rest) slot own parts next =
    let is : n.slot ≡ slot = cc in
    let lack : LackSlot n.slot done =
    own_before done n rest (subst (λ (ns : Nodes). HaveOwnSlots ns) parts own) in
    record {
      node = n;
      rest = rest;
      parts = parts;
      found = rw (parts, ← is) (found_behind done n rest lack);
      after = rw (parts, ← is) (next_behind done n rest lack);
      left = rw (parts, ← is) (without_behind done n rest lack);
    }

-- ---- a loop over those who wait

-- so many were gone through, of whom this holds, and the slot is the one of the next
pub record Reached (nodes : Nodes) (P : List Waiting → Type 0) (at : Option ℕ) (count : ℕ) : Type 0 where
  pub done : Nodes
  pub left : Nodes
  pub parts : nodes ≡ done ++ left
  pub next : at ≡ first_slot left
  pub counted : length done ≡ count
  pub so_far : P (waiters_in done)

-- before the first
pub begins : (nodes : Nodes) (P : List Waiting → Type 0) (at : Option ℕ) → at ≡ first_slot nodes → P []
    → Reached nodes P at 0
begins nodes P at is none =
    record { done = []; left = nodes; parts = refl; next = is; counted = refl; so_far = none }

-- the next one
pub stands_next : (nodes : Nodes) (P : List Waiting → Type 0) (at : Option ℕ) (count slot : ℕ) → HaveOwnSlots nodes
    → at ≡ Some slot → (r : Reached nodes P at count) → StandsAt nodes r.done slot
stands_next nodes P at count slot own is r = stands nodes r.done r.left slot own r.parts (sym is ∙ r.next)

-- is there
pub there : (nodes : Nodes) (P : List Waiting → Type 0) (at : Option ℕ) (count slot : ℕ) → HaveOwnSlots nodes
    → at ≡ Some slot → Reached nodes P at count → IsThere slot nodes
there nodes P at count slot own is r = rw (stands_next nodes P at count slot own is r).found refl

-- and is the one that the slot names
pub its_value : (nodes done : Nodes) (slot : ℕ) (w : Waiting) → (s : StandsAt nodes done slot)
    → option_map (λ (n : Node Waiting). n.value) (node_at slot nodes) ≡ Some w → s.node.value ≡ w
its_value nodes done slot w s value =
    let some : Some s.node.value ≡ Some w =
    sym (ap (option_map (λ (n : Node Waiting). n.value)) s.found) ∙ value in
    cc

joined : (done : Nodes) (n : Node Waiting) (w : Waiting) → n.value ≡ w
    → waiters_in (done ++ n ∷ []) ≡ waiters_in done ++ w ∷ []
joined done n w is =
    map-append (λ (m : Node Waiting). m.value) done (n ∷ [])
    ∙ ap (λ (v : Waiting). waiters_in done ++ v ∷ []) is

-- behind one more
pub further : (nodes : Nodes) (P Q : List Waiting → Type 0) (at next : Option ℕ) (count slot : ℕ) (w : Waiting)
    → HaveOwnSlots nodes → at ≡ Some slot
    → option_map (λ (n : Node Waiting). n.value) (node_at slot nodes) ≡ Some w
    → next ≡ slot_after slot nodes → ((ws : List Waiting) → P ws → Q (ws ++ w ∷ []))
    → Reached nodes P at count → Reached nodes Q next (count + 1)
further nodes P Q at next count slot w own is value goes step r =
    let s = stands_next nodes P at count slot own is r in
    let counted = r.counted in
    record {
      done = r.done ++ s.node ∷ [];
      left = s.rest;
      parts = s.parts ∙ sym (append_assoc r.done (s.node ∷ []) s.rest);
      next = goes ∙ s.after;
      counted = omega (arith, counted, length-append r.done (s.node ∷ []));
      so_far = subst Q (sym (joined r.done s.node w (its_value nodes r.done slot w s value)))
          (step (waiters_in r.done) r.so_far);
    }

none_left : (left : Nodes) → None ≡ first_slot left → left ≡ []
none_left [] is = refl
none_left (n ∷ ns) is = absurd (cc)

empty_left : (done left : Nodes) → length (done ++ left) ≤ length done → left ≡ []
empty_left done [] le = refl
empty_left done (n ∷ ns) le = absurd (omega (arith, length-append done (n ∷ ns), le))

whole : (nodes done left : Nodes) (P : List Waiting → Type 0) → nodes ≡ done ++ left → left ≡ []
    → P (waiters_in done) → P (waiters_in nodes)
whole nodes done left P parts none h =
    let same : done ≡ nodes = sym (parts ∙ (ap (λ (ns : Nodes). done ++ ns) none ∙ append-nil done)) in
    subst (λ (ns : Nodes). P (waiters_in ns)) same h

-- where there is no next one, all were gone through
pub ends : (nodes : Nodes) (P : List Waiting → Type 0) (at : Option ℕ) (count : ℕ) → at ≡ None
    → Reached nodes P at count → P (waiters_in nodes)
ends nodes P at count is r = whole nodes r.done r.left P r.parts (none_left r.left (sym is ∙ r.next)) r.so_far

-- and where there were as many as there are
pub has_all : (nodes : Nodes) (P : List Waiting → Type 0) (at : Option ℕ) (count : ℕ) → length nodes ≤ count
    → Reached nodes P at count → P (waiters_in nodes)
has_all nodes P at count le r =
    let counted = r.counted in
    let size : length nodes ≡ length (r.done ++ r.left) = ap (λ (ns : Nodes). length ns) r.parts in
    whole nodes r.done r.left P r.parts (empty_left r.done r.left (omega arith)) r.so_far

-- ---- the list of those who wait

-- where one stands among the others, and who is left without it
pub waiters_parts : (nodes done : Nodes) (slot : ℕ) (w : Waiting) → (s : StandsAt nodes done slot) → s.node.value ≡ w
    → waiters_in nodes ≡ waiters_in done ++ w ∷ waiters_in s.rest
waiters_parts nodes done slot w s is =
    ap waiters_in s.parts
    ∙ (map-append (λ (m : Node Waiting). m.value) done (s.node ∷ s.rest)
    ∙ ap (λ (v : Waiting). waiters_in done ++ v ∷ waiters_in s.rest) is)

-- those who are left without the one in a slot
pub waiters_left : (nodes done : Nodes) (slot : ℕ) → (s : StandsAt nodes done slot)
    → waiters_in (without slot nodes) ≡ waiters_in done ++ waiters_in s.rest
waiters_left nodes done slot s =
    ap waiters_in s.left ∙ map-append (λ (m : Node Waiting). m.value) done s.rest

-- one more at the end
pub waiters_behind : (nodes : Nodes) (n : Node Waiting)
    → waiters_in (nodes ++ n ∷ []) ≡ waiters_in nodes ++ n.value ∷ []
waiters_behind nodes n = map-append (λ (m : Node Waiting). m.value) nodes (n ∷ [])
