-- Nodes around the one that a slot names.
use Rattle.std.proofs.Common.{◌≡◌, ℕ, ℤ, Bool, true, false, cond, List, [], ◌∷◌, ◌++◌, Option, Some, None, refl, sym, ap, inl, inr}
use Rattle.std.proofs.lemmas.Bool.{cases_eq, eq-eqb, ne_eqb}
use Rattle.std.specs.Ordering.{int_eq}
use Rattle.std.specs.Prelude.{IfSome}
use Rattle.index_links.specs.Chains.{LackSlot}
use Rattle.index_links.specs.Nodes.{Node, node_at, IsThere, without, first_slot, first_slot_of, slot_after}

module _ {V : Type 0} where
  pub record Split (slot : ℕ) (ns : List (Node V)) : Type 0 where
    pub before : List (Node V)
    pub node : Node V
    pub after : List (Node V)
    pub split : ns ≡ before ++ node ∷ after
    pub is : node.slot ≡ slot
    pub found : node_at slot ns ≡ Some node
    pub rest : without slot ns ≡ before ++ after
    pub next : slot_after slot ns ≡ first_slot after

  pub split_at : (slot : ℕ) (ns : List (Node V)) → IsThere slot ns → Split slot ns
  split_at slot [] h = absurd (cc)
  split_at slot (n ∷ ns) h =
      elim (cases_eq n.slot slot) [
        | inl same ↦
            record {
              before = [];
              node = n;
              after = ns;
              split = refl;
              is = same;
              found = rw (eq-eqb n.slot slot same) refl;
              rest = rw (eq-eqb n.slot slot same) refl;
              next = rw (eq-eqb n.slot slot same) refl;
            }
        | inr ne ↦
            let there : IsThere slot ns = rw (ne_eqb n.slot slot ne) at h in
            let s = split_at slot ns there in
            record {
              before = n ∷ s.before;
              node = s.node;
              after = s.after;
              split = ap (λ (xs : List (Node V)). n ∷ xs) s.split;
              is = s.is;
              found = rw (ne_eqb n.slot slot ne) s.found;
              rest = rw (ne_eqb n.slot slot ne) (ap (λ (xs : List (Node V)). n ∷ xs) s.rest);
              next = rw (ne_eqb n.slot slot ne) s.next;
            }
      ]

  -- a slot that no node has names none
  pub none_at : (slot : ℕ) (ns : List (Node V)) → LackSlot slot ns → node_at slot ns ≡ None
  none_at slot [] lack = refl
  none_at slot (n ∷ ns) lack = rw (ne_eqb n.slot slot lack.0) (none_at slot ns lack.1)

  -- the first slot names a node
  pub first_there : (ns : List (Node V)) (slot : ℕ) → first_slot ns ≡ Some slot → IsThere slot ns
  first_there [] slot is = absurd (cc)
  first_there (n ∷ ns) slot is = let same : n.slot ≡ slot = cc in rw (eq-eqb n.slot slot same) refl

  -- what names a node further behind names one
  pub later_there : (n : Node V) (ns : List (Node V)) (slot : ℕ) → IsThere slot ns → IsThere slot (n ∷ ns)
  later_there n ns slot there =
      elim (cases_eq n.slot slot) [
        | inl same ↦ rw (eq-eqb n.slot slot same) refl
        | inr ne ↦ rw (ne_eqb n.slot slot ne) there
      ]

  pub after_there : (slot : ℕ) (ns : List (Node V)) (next : ℕ) → slot_after slot ns ≡ Some next → IsThere next ns
  after_there slot [] next is = absurd (cc)
  after_there slot (n ∷ ns) next is =
      elim (cases_eq n.slot slot) [
        | inl same ↦ later_there n ns next (first_there ns next (rw (eq-eqb n.slot slot same) at is))
        | inr ne ↦ later_there n ns next (after_there slot ns next (rw (ne_eqb n.slot slot ne) at is))
      ]

  -- the first of a class is there
  first_of_step : (class : ℤ) (n : Node V) (ns : List (Node V)) (slot : ℕ) (b : Bool)
      → cond b (Some n.slot) (first_slot_of class ns) ≡ Some slot
      → (first_slot_of class ns ≡ Some slot → IsThere slot ns) → IsThere slot (n ∷ ns)
  first_of_step class n ns slot true is rest = first_there (n ∷ ns) slot is
  first_of_step class n ns slot false is rest = later_there n ns slot (rest is)

  pub first_of_there : (class : ℤ) (ns : List (Node V)) (slot : ℕ) → first_slot_of class ns ≡ Some slot
      → IsThere slot ns
  first_of_there class [] slot is = absurd (cc)
  first_of_there class (n ∷ ns) slot is =
      first_of_step class n ns slot (int_eq n.class class) is (λ h. first_of_there class ns slot h)

-- what holds of each value that another option may have
pub if_given : (o r : Option ℕ) (P : ℕ → Type 0) → o ≡ r → ((s : ℕ) → r ≡ Some s → P s) → IfSome o P
if_given None r P same h = tt
if_given (Some s) r P same h = h s (sym same)
