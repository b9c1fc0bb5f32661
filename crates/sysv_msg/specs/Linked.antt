-- The messages of a queue by their slots, and which of them a receive asks for.
use Rattle.std.specs.Prelude.{◌≡◌, ℕ, ℤ, zero, suc, pos, negsuc, Bool, true, int_le, List, map, Option, Some, None, remove, slice_get}
use Rattle.std.specs.Ordering.{int_eq}
use Rattle.index_links.specs.Nodes.{Node, node_at, without, first_slot, first_slot_of, least_upto}
use Rattle.kernel_model.specs.Queue.{Message, select}

-- a node as a message
abbrev pub message_of : Node (List ℕ) → Message
message_of n = record { class = n.class; text = n.value }

abbrev pub messages_of : List (Node (List ℕ)) → List Message
messages_of ns = map message_of ns

-- a receive of the first type asks for a message of the second: of any for 0, of this one where it is positive, and of
-- one that isn't above its absolute value where it is negative
abbrev pub asks_for : ℤ → ℤ → Bool
asks_for (pos zero) of = true
asks_for (pos (suc n)) of = int_eq of (pos (suc n))
asks_for (negsuc n) of = int_le of (pos (suc n))

-- the slot of the message that a receive of this type asks for
module _ {V : Type 0} where
  abbrev pub slot_of_some : Option ℤ → List (Node V) → Option ℕ
  slot_of_some None ns = None
  slot_of_some (Some class) ns = first_slot_of class ns

  abbrev pub slot_for : ℤ → List (Node V) → Option ℕ
  slot_for (pos zero) ns = first_slot ns
  slot_for (pos (suc n)) ns = first_slot_of (pos (suc n)) ns
  slot_for (negsuc n) ns = slot_of_some (least_upto (pos (suc n)) ns) ns

-- The message in a slot is the one that a receive of this type asks for, and without the slot it is gone.
pub record IsSelected (class : ℤ) (ns : List (Node (List ℕ))) (slot : ℕ) : Type 0 where
  pub place : ℕ
  pub node : Node (List ℕ)
  pub selected : select (messages_of ns) class ≡ Some place
  pub there : slice_get (messages_of ns) place ≡ Some (message_of node)
  pub found : node_at slot ns ≡ Some node
  pub rest : messages_of (without slot ns) ≡ remove (messages_of ns) place
