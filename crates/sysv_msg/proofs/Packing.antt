-- Messages packed one after the other, as a loop does that goes from each slot to the next.
use Rattle.std.proofs.Common.{◌≡◌, ℕ, ℤ, ◌+◌, ◌≤◌, List, [], ◌∷◌, ◌++◌, length, Option, Some, None, option_map, refl, sym, ap, subst, ◌∙◌, append_assoc, arith}
use Rattle.std.specs.List.{flat_map}
use Rattle.std.proofs.lemmas.List.{append-nil, length-append, map-append}
use Rattle.std.proofs.lemmas.List.Concat.{flat_map-append, flat_map-cons}
use Rattle.index_links.specs.Chains.{LackSlot, HaveOwnSlots}
use Rattle.index_links.specs.Nodes.{Node, IsThere, node_at, first_slot, slot_after}
use Rattle.kernel_model.specs.Queue.{Message}
use Rattle.sysv_msg.specs.Body.{message_field}
use Rattle.sysv_msg.specs.Linked.{message_of, messages_of}
use Rattle.sysv_msg.proofs.Slots.{found_behind, next_behind, own_before}

abbrev Head : Type 0
Head = Node (List ℕ)

-- so many messages were packed, and the slot is the one of the next
pub record HasPacked (heads : List Head) (at : Option ℕ) (count : ℕ) (before out : List ℕ) : Type 0
  where
    pub done : List Head
    pub left : List Head
    pub parts : heads ≡ done ++ left
    pub next : at ≡ first_slot left
    pub counted : length done ≡ count
    pub packed : out ≡ before ++ flat_map message_field (messages_of done)

-- before the first message
pub begins_packing : (heads : List Head) (at : Option ℕ) (out : List ℕ) → at ≡ first_slot heads
    → HasPacked heads at 0 out out
begins_packing heads at out is =
    record { done = []; left = heads; parts = refl; next = is; counted = refl; packed = sym (append-nil out) }

-- what a slot shows that is the next one
record NextIs (heads : List Head) (slot : ℕ) (done left : List Head) : Type 0 where
  head : Head
  rest : List Head
  is : left ≡ head ∷ rest
  found : node_at slot heads ≡ Some head
  after : slot_after slot heads ≡ first_slot rest

next_is : (heads done left : List Head) (slot : ℕ) → HaveOwnSlots heads → heads ≡ done ++ left
    → Some slot ≡ first_slot left → NextIs heads slot done left
next_is heads done [] slot own parts next = absurd (cc)
next_is heads done (h ∷ rest) slot own parts next =
    let is : h.slot ≡ slot = cc in
    let lack : LackSlot h.slot done =
    own_before done h rest (subst (λ (hs : List Head). HaveOwnSlots hs) parts own) in
    record {
      head = h;
      rest = rest;
      is = refl;
      found = rw (parts, ← is) (found_behind done h rest lack);
      after = rw (parts, ← is) (next_behind done h rest lack);
    }

-- the next slot is there
pub next_there : (heads : List Head) (slot count : ℕ) (at : Option ℕ) (before out : List ℕ)
    → HaveOwnSlots heads → at ≡ Some slot → HasPacked heads at count before out → IsThere slot heads
next_there heads slot count at before out own is h =
    let n = next_is heads h.done h.left slot own h.parts (sym is ∙ h.next) in
    rw n.found refl

-- behind one more message
pub packs_more : (heads : List Head) (slot count : ℕ) (at next : Option ℕ) (before out out' : List ℕ)
    (class : ℤ) (text : List ℕ) → HaveOwnSlots heads → at ≡ Some slot
    → option_map (λ (h : Head). h.class) (node_at slot heads) ≡ Some class
    → option_map (λ (h : Head). h.value) (node_at slot heads) ≡ Some text
    → out' ≡ out ++ message_field (record { class = class; text = text })
    → next ≡ slot_after slot heads → HasPacked heads at count before out
    → HasPacked heads next (count + 1) before out'
packs_more heads slot count at next before out out' class text own is of_class value more goes h =
    let n = next_is heads h.done h.left slot own h.parts (sym is ∙ h.next) in
    let m : Message = record { class = class; text = text } in
    let some_class : Some n.head.class ≡ Some class =
    sym (ap (option_map (λ (k : Head). k.class)) n.found) ∙ of_class in
    let some_value : Some n.head.value ≡ Some text =
    sym (ap (option_map (λ (k : Head). k.value)) n.found) ∙ value in
    let same_class : n.head.class ≡ class = cc in
    let same_value : n.head.value ≡ text = cc in
    let message : message_of n.head ≡ m = rw (same_class, same_value) refl in
    let counted = h.counted in
    let fields : List ℕ = flat_map message_field (messages_of h.done) in
    let all : flat_map message_field (messages_of (h.done ++ n.head ∷ [])) ≡ fields ++ message_field m =
    ap (flat_map message_field) (map-append (message_of) h.done (n.head ∷ []))
    ∙ (flat_map-append message_field (messages_of h.done) (message_of n.head ∷ [])
    ∙ ap (λ (r : List ℕ). fields ++ r)
    (flat_map-cons message_field (message_of n.head) []
    ∙ (append-nil (message_field (message_of n.head)) ∙ ap message_field message))) in
    record {
      done = h.done ++ n.head ∷ [];
      left = n.rest;
      parts = h.parts ∙ (ap (λ (hs : List Head). h.done ++ hs) n.is
          ∙ sym (append_assoc h.done (n.head ∷ []) n.rest));
      next = goes ∙ n.after;
      counted = omega (arith, counted, length-append h.done (n.head ∷ []));
      packed = more
          ∙ (ap (λ (r : List ℕ). r ++ message_field m) h.packed
          ∙ (append_assoc before fields (message_field m) ∙ ap (λ (r : List ℕ). before ++ r) (sym all)));
    }

whole : (heads done left : List Head) (before out : List ℕ) → heads ≡ done ++ left → left ≡ []
    → out ≡ before ++ flat_map message_field (messages_of done)
    → out ≡ before ++ flat_map message_field (messages_of heads)
whole heads done left before out parts none packed =
    let same : heads ≡ done = parts ∙ (ap (λ (hs : List Head). done ++ hs) none ∙ append-nil done) in
    packed ∙ ap (λ (hs : List Head). before ++ flat_map message_field (messages_of hs)) (sym same)

none_left : (left : List Head) → None ≡ first_slot left → left ≡ []
none_left [] is = refl
none_left (h ∷ hs) is = absurd (cc)

empty_left : (done left : List Head) → length (done ++ left) ≤ length done → left ≡ []
empty_left done [] le = refl
empty_left done (h ∷ hs) le = absurd (omega (arith, length-append done (h ∷ hs), le))

-- where there is no next slot all were packed
pub ends_packing : (heads : List Head) (count : ℕ) (at : Option ℕ) (before out : List ℕ) → at ≡ None
    → HasPacked heads at count before out → out ≡ before ++ flat_map message_field (messages_of heads)
ends_packing heads count at before out is h =
    whole heads h.done h.left before out h.parts (none_left h.left (sym is ∙ h.next)) h.packed

-- and where there were as many as there are
pub has_packed_all : (heads : List Head) (count : ℕ) (at : Option ℕ) (before out : List ℕ)
    → length heads ≤ count → HasPacked heads at count before out
    → out ≡ before ++ flat_map message_field (messages_of heads)
has_packed_all heads count at before out le h =
    let counted = h.counted in
    let size : length heads ≡ length (h.done ++ h.left) = ap (λ (hs : List Head). length hs) h.parts in
    whole heads h.done h.left before out h.parts (empty_left h.done h.left (omega arith)) h.packed
