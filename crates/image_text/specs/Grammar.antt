-- What an image is: the lines of a script, a line `image E`, and E lines of events by rising node.
use Rattle.std.specs.Prelude.{◌≡◌, ℕ, ◌≤◌, List, ◌∷◌, length, map, Result, Ok, Err}
use Rattle.std.specs.List.{AllByRecursion}
use Rattle.std.specs.List.Sorted.{IsPermutation}
use Rattle.pico_base.specs.declared.script.Script.{Script}
use Rattle.pico_base.specs.declared.script.Event.{Event}
use Rattle.pico_base.specs.declared.script.Event.TheVariants.{Run, Take}
use Rattle.stamp_merge.specs.declared.Stamped.{Stamped}
use Rattle.stamp_merge.specs.Merge.{StampsRise, AreInOrder, items_of}
use Rattle.script_reader.specs.Fault.{Reads}
use Rattle.image_text.specs.declared.image.Said.{Said}
use Rattle.image_text.specs.declared.fault.ImageStop.{ImageStop}
use Rattle.image_text.specs.declared.fault.ImageStop.TheVariants.{Memory}
use Rattle.world_model.specs.Schedule.{node_of}
use Rattle.image_text.specs.Image.{max_image, max_stamp, event_line, count_line}
use Rattle.image_text.specs.Parts.{script_of, lines_behind}
use Rattle.image_text.specs.Order.{NodesRise, plain}

abbrev pub IsNodeOf : ℕ → ℕ → Type 0
IsNodeOf nodes p = (1 ≤ p) × (p ≤ nodes)

-- its nodes are nodes of a script with so many
abbrev pub HasNodes : ℕ → Event → Type 0
HasNodes nodes (Run p) = IsNodeOf nodes p
HasNodes nodes (Take p from) = IsNodeOf nodes p × IsNodeOf nodes from

-- it may stand in the image of a script with so many nodes
pub record MayStand (nodes : ℕ) (e : Stamped Event) : Type 0 where
  pub low : 1 ≤ e.stamp
  pub high : e.stamp ≤ max_stamp
  pub own : e.node ≡ node_of e.item
  pub there : HasNodes nodes e.item

-- The text is the image of this script and of these events. The last line may lack its line feed.
pub record IsImage (image : List ℕ) (script : Script) (events : List (Stamped Event)) : Type 0 where
  pub within : length image ≤ max_image
  pub reads : Reads (script_of image) script
  pub lines : lines_behind image ≡ count_line (length events) ∷ map event_line events
  pub stand : AllByRecursion (MayStand (length script.blocks)) events
  pub rise : NodesRise 1 events

-- each node's stamps rise
abbrev pub StampsRiseByNode : List (Stamped Event) → Type 0
StampsRiseByNode events = (p : ℕ) → StampsRise (items_of p events)

-- the same events, by stamp, and by node where stamps are the same
pub record IsOrderOf (events order : List (Stamped Event)) : Type 0 where
  pub in_order : AreInOrder order
  pub same : IsPermutation events order

-- The text is an image, each node's stamps rise, and this is its script with its events in order.
pub record IsSaidBy (image : List ℕ) (said : Said) : Type 0 where
  pub events : List (Stamped Event)
  pub is_image : IsImage image said.script events
  pub stamps : StampsRiseByNode events
  pub order : IsOrderOf events (map plain said.events)

-- what was read is this script and these events, unless memory ran out
abbrev pub IsReadAs : Script → List (Stamped Event) → Result Said ImageStop → Type 0
IsReadAs script events (Ok said) = (said.script ≡ script) × (map plain said.events ≡ events)
IsReadAs script events (Err Memory) = Unit {0}
IsReadAs script events (Err stop) = ⊥
