-- Messages by their slots: what a slot names, and which slot a receive asks for.
use Rattle.std.proofs.Common.{◌≡◌, ◌≢◌, ℕ, zero, suc, ◌+◌, true, false, ltb, ℤ, pos, negsuc, List, [], ◌∷◌, ◌++◌, length, Option, Some, None, option_map, refl, sym, ap, subst, ◌∙◌, inl, inr, w32, arith}
use Rattle.std.specs.Prelude.{FitsSigned, MatchOption, remove, slice_get}
use Rattle.std.specs.List.{AllByRecursion, position_from}
use Rattle.std.specs.Ordering.{int_eq}
use Rattle.std.proofs.lemmas.Bool.{cases_Bool, eq-eqb, ne_eqb}
use Rattle.std.proofs.lemmas.Bool.Decides.{nat_tests}
use Rattle.std.proofs.lemmas.Iterator.Adapters.{position_from-zero}
use Rattle.index_links.specs.Chains.{LackSlot, HaveOwnSlots}
use Rattle.index_links.specs.Nodes.{Node, IsThere, node_at, without, first_slot, first_slot_of, slot_after, least_upto, lower_of}
use Rattle.kernel_model.specs.Queue.{Message, first_of, first_of_some, lowest_upto, select}
use Rattle.kernel_model.specs.Queue as definition
use Rattle.body_fields.proofs.Fields.{some_is}
use Rattle.sysv_msg.specs.Limits.{IsSendable}
use Rattle.sysv_msg.specs.Linked.{message_of, messages_of, slot_for, slot_of_some, IsSelected}

-- ---- a node behind others, none of which has its slot

all_at : {X : Type 0} (P : X → Type 0) (xs : List X) (y : X) (ys : List X) → AllByRecursion P (xs ++ y ∷ ys) → P y
all_at P [] y ys h = h.0
all_at P (x ∷ xs) y ys h = all_at P xs y ys h.1

module _ {V : Type 0} where
  -- where each has a slot of its own none before a node has its slot
  pub own_before : (before : List (Node V)) (n : Node V) (after : List (Node V)) → HaveOwnSlots (before ++ n ∷ after)
      → LackSlot n.slot before
  own_before [] n after own = tt
  own_before (m ∷ ms) n after own =
      let other : n.slot ≢ m.slot = all_at (λ (k : Node V). k.slot ≢ m.slot) ms n after own.0 in
      ((λ e. other (sym e)), own_before ms n after own.1)

  -- the slot names the node
  pub found_behind : (before : List (Node V)) (n : Node V) (after : List (Node V)) → LackSlot n.slot before
      → node_at n.slot (before ++ n ∷ after) ≡ Some n
  found_behind [] n after lack = rw (eq-eqb n.slot n.slot refl) refl
  found_behind (m ∷ ms) n after lack = rw (ne_eqb m.slot n.slot lack.0) (found_behind ms n after lack.1)

  -- without it the others are left
  pub without_behind : (before : List (Node V)) (n : Node V) (after : List (Node V)) → LackSlot n.slot before
      → without n.slot (before ++ n ∷ after) ≡ before ++ after
  without_behind [] n after lack = rw (eq-eqb n.slot n.slot refl) refl
  without_behind (m ∷ ms) n after lack =
      rw (ne_eqb m.slot n.slot lack.0) (ap (λ (ns : List (Node V)). m ∷ ns) (without_behind ms n after lack.1))

  -- the next slot is the first of those behind it
  pub next_behind : (before : List (Node V)) (n : Node V) (after : List (Node V)) → LackSlot n.slot before
      → slot_after n.slot (before ++ n ∷ after) ≡ first_slot after
  next_behind [] n after lack = rw (eq-eqb n.slot n.slot refl) refl
  next_behind (m ∷ ms) n after lack = rw (ne_eqb m.slot n.slot lack.0) (next_behind ms n after lack.1)

  -- ---- the first of a type

  -- a node of the type, none before which has the type
  record FirstOf (class : ℤ) (slot : ℕ) (ns : List (Node V)) : Type 0 where
    before : List (Node V)
    node : Node V
    after : List (Node V)
    split : ns ≡ before ++ node ∷ after
    is : node.slot ≡ slot
    of_class : int_eq node.class class ≡ true
    others : AllByRecursion (λ (m : Node V). int_eq m.class class ≡ false) before

  first_of_parts : (class : ℤ) (slot : ℕ) (ns : List (Node V)) → first_slot_of class ns ≡ Some slot
      → FirstOf class slot ns
  first_of_parts class slot [] is = absurd (cc)
  first_of_parts class slot (n ∷ ns) is =
      elim (cases_Bool (int_eq n.class class)) [
        | inl same ↦
            let some : Some n.slot ≡ Some slot = rw same at is in
            record {
              before = [];
              node = n;
              after = ns;
              split = refl;
              is = (let is_slot : n.slot ≡ slot = cc in is_slot);
              of_class = same;
              others = tt;
            }
        | inr other ↦
            let rest = first_of_parts class slot ns (rw other at is) in
            record {
              before = n ∷ rest.before;
              node = rest.node;
              after = rest.after;
              split = ap (λ (ms : List (Node V)). n ∷ ms) rest.split;
              is = rest.is;
              of_class = rest.of_class;
              others = (other, rest.others);
            }
      ]

-- ---- places

item_behind : {X : Type 0} (xs : List X) (y : X) (ys : List X) → slice_get (xs ++ y ∷ ys) (length xs) ≡ Some y
item_behind [] y ys = refl
item_behind (x ∷ xs) y ys = item_behind xs y ys

removed_behind : {X : Type 0} (xs : List X) (y : X) (ys : List X) → remove (xs ++ y ∷ ys) (length xs) ≡ xs ++ ys
removed_behind [] y ys = refl
removed_behind {X} (x ∷ xs) y ys = ap (λ (zs : List X). x ∷ zs) (removed_behind xs y ys)

messages_join : (xs ys : List (Node (List ℕ))) → messages_of (xs ++ ys) ≡ messages_of xs ++ messages_of ys
messages_join [] ys = refl
messages_join (x ∷ xs) ys = ap (λ (ms : List Message). message_of x ∷ ms) (messages_join xs ys)

-- there are as many messages as nodes
pub messages_length : (ns : List (Node (List ℕ))) → length (messages_of ns) ≡ length ns
messages_length [] = refl
messages_length (n ∷ ns) = ap suc (messages_length ns)

-- the place of the first of a type, from a place on
place_behind : (class : ℤ) (i : ℕ) (before : List (Node (List ℕ))) (n : Node (List ℕ)) (after : List (Node (List ℕ)))
    → AllByRecursion (λ (m : Node (List ℕ)). int_eq m.class class ≡ false) before → int_eq n.class class ≡ true
    → position_from (λ (m : Message). int_eq m.class class) i (messages_of (before ++ n ∷ after))
    ≡ Some (i + length before)
place_behind class i [] n after others is = let same : i ≡ i + 0 = omega arith in rw is (ap Some same)
place_behind class i (m ∷ ms) n after others is =
    let same : i + 1 + length ms ≡ i + suc (length ms) = omega arith in
    rw others.0 (place_behind class (i + 1) ms n after others.1 is ∙ ap Some same)

no_place : (class : ℤ) (i : ℕ) (ns : List (Node (List ℕ))) → first_slot_of class ns ≡ None
    → position_from (λ (m : Message). int_eq m.class class) i (messages_of ns) ≡ None
no_place class i [] none = refl
no_place class i (n ∷ ns) none =
    elim (cases_Bool (int_eq n.class class)) [
      | inl same ↦ let clash : Some n.slot ≡ None = rw same at none in absurd (cc)
      | inr other ↦ rw other (no_place class (i + 1) ns (rw other at none))
    ]

-- what is selected at a place behind others, whose slot none of them has
selected_behind : (class : ℤ) (slot : ℕ) (ns before : List (Node (List ℕ))) (n : Node (List ℕ))
    (after : List (Node (List ℕ))) → HaveOwnSlots ns → ns ≡ before ++ n ∷ after → n.slot ≡ slot
    → select (messages_of ns) class ≡ Some (length before) → IsSelected class ns slot
selected_behind class slot ns before n after own split is selected =
    let lack : LackSlot n.slot before =
    own_before before n after (subst (λ (ms : List (Node (List ℕ))). HaveOwnSlots ms) split own) in
    let parts : messages_of ns ≡ messages_of before ++ message_of n ∷ messages_of after =
    ap messages_of split ∙ messages_join before (n ∷ after) in
    let size : length before ≡ length (messages_of before) = sym (messages_length before) in
    let left : messages_of (without slot ns) ≡ messages_of before ++ messages_of after =
    rw (split, ← is) (ap messages_of (without_behind before n after lack) ∙ messages_join before after) in
    record {
      place = length before;
      node = n;
      selected = selected;
      there = rw (parts, size) (item_behind (messages_of before) (message_of n) (messages_of after));
      found = rw (split, ← is) (found_behind before n after lack);
      rest = rw (parts, size)
          (left ∙ sym (removed_behind (messages_of before) (message_of n) (messages_of after)));
    }

-- ---- which slot a receive asks for

first_selected : (class : ℤ) (slot : ℕ) (ns : List (Node (List ℕ))) → HaveOwnSlots ns
    → first_slot_of class ns ≡ Some slot → (asked : ℤ)
    → select (messages_of ns) asked ≡ first_of class (messages_of ns) → IsSelected asked ns slot
first_selected class slot ns own is asked same =
    let f = first_of_parts class slot ns is in
    let place : position_from (λ (m : Message). int_eq m.class class) 0 (messages_of ns) ≡ Some (0 + length f.before) =
    ap (λ (ms : List (Node (List ℕ))). position_from (λ (m : Message). int_eq m.class class) 0 (messages_of ms)) f.split
    ∙ place_behind class 0 f.before f.node f.after f.others f.of_class in
    let zero_first : 0 + length f.before ≡ length f.before = omega arith in
    selected_behind asked slot ns f.before f.node f.after own f.split f.is
    (same
    ∙ (position_from-zero (λ (m : Message). int_eq m.class class) (messages_of ns) ∙ (place ∙ ap Some zero_first)))

none_first : (class : ℤ) (ns : List (Node (List ℕ))) → first_slot_of class ns ≡ None
    → first_of class (messages_of ns) ≡ None
none_first class ns none =
    position_from-zero (λ (m : Message). int_eq m.class class) (messages_of ns) ∙ no_place class 0 ns none

lowers_agree : (class : ℤ) (o : Option ℤ) → definition.lower_of class o ≡ lower_of class o
lowers_agree class None = refl
lowers_agree class (Some other) = refl

lowest_agree : (bound : ℤ) (ns : List (Node (List ℕ))) → lowest_upto bound (messages_of ns) ≡ least_upto bound ns
lowest_agree bound [] = refl
lowest_agree bound (n ∷ ns) = rw (lowest_agree bound ns, lowers_agree n.class (least_upto bound ns)) refl

-- of some messages the first is selected by type 0
some_front : (m : Message) (ms : List Message) → select (m ∷ ms) (pos 0) ≡ Some 0
some_front m ms =
    let some : ltb 0 (suc (length ms)) ≡ true = grind (arith, nat_tests) in
    rw some refl

-- where there is a slot, its message is selected
pub slot_selected : (class : ℤ) (ns : List (Node (List ℕ))) (slot : ℕ) → HaveOwnSlots ns
    → slot_for class ns ≡ Some slot → IsSelected class ns slot
slot_selected (pos zero) [] slot own is = absurd (cc)
slot_selected (pos zero) (n ∷ ns) slot own is =
    let same : n.slot ≡ slot = cc in
    selected_behind (pos 0) slot (n ∷ ns) [] n ns own refl same (some_front (message_of n) (messages_of ns))
slot_selected (pos (suc n)) ns slot own is = first_selected (pos (suc n)) slot ns own is (pos (suc n)) refl
slot_selected (negsuc n) ns slot own is =
    lowest (least_upto (pos (suc n)) ns) refl is
  where
    lowest : (o : Option ℤ) → least_upto (pos (suc n)) ns ≡ o → slot_of_some o ns ≡ Some slot
        → IsSelected (negsuc n) ns slot
    lowest None e is = absurd (cc)
    lowest (Some class) e is =
        first_selected class slot ns own is (negsuc n)
        (ap (λ (o : Option ℤ). first_of_some o (messages_of ns)) (lowest_agree (pos (suc n)) ns ∙ e))

-- where there is none, no message is selected
pub none_selected : (class : ℤ) (ns : List (Node (List ℕ))) → slot_for class ns ≡ None
    → select (messages_of ns) class ≡ None
none_selected (pos zero) [] is = refl
none_selected (pos zero) (n ∷ ns) is = absurd (cc)
none_selected (pos (suc n)) ns is = none_first (pos (suc n)) ns is
none_selected (negsuc n) ns is =
    lowest (least_upto (pos (suc n)) ns) refl is
  where
    lowest : (o : Option ℤ) → least_upto (pos (suc n)) ns ≡ o → slot_of_some o ns ≡ None
        → select (messages_of ns) (negsuc n) ≡ None
    lowest None e is = ap (λ (o : Option ℤ). first_of_some o (messages_of ns)) (lowest_agree (pos (suc n)) ns ∙ e)
    lowest (Some class) e is =
        ap (λ (o : Option ℤ). first_of_some o (messages_of ns)) (lowest_agree (pos (suc n)) ns ∙ e)
        ∙ none_first class ns is

-- what is told of the slot that a receive asks for
pub told_selected : (o : Option ℕ) (class : ℤ) (ns : List (Node (List ℕ))) → HaveOwnSlots ns → o ≡ slot_for class ns
    → MatchOption o (select (messages_of ns) class ≡ None) (λ slot. IsSelected class ns slot)
told_selected None class ns own is = none_selected class ns (sym is)
told_selected (Some slot) class ns own is = slot_selected class ns slot own (sym is)

-- the types of messages fit where the messages can be sent
pub fits_of : (ns : List (Node (List ℕ))) → AllByRecursion IsSendable (messages_of ns)
    → AllByRecursion (λ (n : Node (List ℕ)). FitsSigned w32 n.class) ns
fits_of [] each = tt
fits_of (n ∷ ns) each = (each.0.fits, fits_of ns each.1)

-- a message that comes last is the last node's
pub messages_behind : (ns : List (Node (List ℕ))) (n : Node (List ℕ))
    → messages_of (ns ++ n ∷ []) ≡ messages_of ns ++ message_of n ∷ []
messages_behind ns n = messages_join ns (n ∷ [])

-- what a slot names is told by its node
pub node_value : {V : Type 0} (slot : ℕ) (ns : List (Node V)) (n : Node V) (v : V) → node_at slot ns ≡ Some n
    → option_map (λ (m : Node V). m.value) (node_at slot ns) ≡ Some v → n.value ≡ v
node_value {V} slot ns n v found is =
    some_is n.value v (sym (ap (option_map (λ (m : Node V). m.value)) found) ∙ is)

pub node_class : {V : Type 0} (slot : ℕ) (ns : List (Node V)) (n : Node V) (class : ℤ) → node_at slot ns ≡ Some n
    → option_map (λ (m : Node V). m.class) (node_at slot ns) ≡ Some class → n.class ≡ class
node_class {V} slot ns n class found is =
    some_is n.class class (sym (ap (option_map (λ (m : Node V). m.class)) found) ∙ is)

-- the slot of a message that is selected is there
pub is_there : (class : ℤ) (ns : List (Node (List ℕ))) (slot : ℕ) → IsSelected class ns slot → IsThere slot ns
is_there class ns slot s = rw s.found refl
