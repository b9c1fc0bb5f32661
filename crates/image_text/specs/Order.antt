-- The order of events: by stamp, and by node where stamps are the same.
use Rattle.std.specs.Prelude.{ℕ, ◌==◌, nat_le, nat_lt, Bool, ◌&&◌, ◌||◌, List, [], ◌∷◌, map, ◌≤◌, ⊤, if◌then◌else◌, Option, Some, None}
use Rattle.pico_base.specs.declared.script.Event.{Event}
use Rattle.stamp_merge.specs.declared.Stamped.{Stamped}
use Rattle.stamp_merge.specs.Merge.{items_of}
use Rattle.world_model.specs.World.{numbers}
use Rattle.image_text.specs.Image.{max_node}
use Rattle.image_text.specs.declared.placed.Placed.{Placed}

-- an event without its line
abbrev pub plain : Stamped Placed → Stamped Event
plain e = record { stamp = e.stamp; node = e.node; item = e.item.event }

-- of the same node, and the stamp isn't above the one before it
abbrev pub falls : Stamped Placed → Stamped Placed → Bool
falls before e = e.node == before.node && nat_le e.stamp before.stamp

-- the line of the first event that falls behind this one
unfoldable pub fall_behind : Stamped Placed → List (Stamped Placed) → Option ℕ
fall_behind before [] = None
fall_behind before (e ∷ events) = if falls before e then Some e.item.line else fall_behind e events

-- the line of the first event that falls
unfoldable pub first_fall : List (Stamped Placed) → Option ℕ
first_fall [] = None
first_fall (e ∷ events) = fall_behind e events

-- a lower stamp, or the same at a lower node
abbrev pub is_before : Stamped Placed → Stamped Placed → Bool
is_before e f = nat_lt e.stamp f.stamp || (e.stamp == f.stamp && nat_lt e.node f.node)

-- an event before the first one that comes later
abbrev pub put : Stamped Placed → List (Stamped Placed) → List (Stamped Placed)
put e [] = e ∷ []
put e (f ∷ events) = if is_before e f then e ∷ f ∷ events else f ∷ put e events

-- the events in order
unfoldable pub ordered : List (Stamped Placed) → List (Stamped Placed)
ordered [] = []
ordered (e ∷ events) = put e (ordered events)

-- the events of each node, by rising node
unfoldable pub logs_of : List (Stamped Placed) → List (List (Stamped Placed))
logs_of events = map (λ p. items_of p events) (numbers 1 max_node)

-- no event is of a lower node than the one before it, the first one of no lower node than this one
abbrev pub NodesRise : {T : Type 0} → ℕ → List (Stamped T) → Type 0
NodesRise low [] = ⊤
NodesRise low (e ∷ events) = (low ≤ e.node) × (e.node ≤ max_node) × NodesRise e.node events
