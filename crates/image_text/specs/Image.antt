-- The text of an image: a script, a line `image E`, and E lines, each with a stamp, a node and what it did then.
use Rattle.std.specs.Prelude.{ℕ, ◌-◌, ◌==◌, nat_lt, Bool, ◌&&◌, not, List, [], ◌∷◌, ◌++◌, length, slice_index_or, codes, if◌then◌else◌}
use Rattle.std.specs.Fmt.{decimal}
use Rattle.std.specs.List.{flat_map}
use Rattle.pico_base.specs.declared.script.Event.{Event}
use Rattle.pico_base.specs.declared.script.Event.TheVariants.{Run, Take}
use Rattle.stamp_merge.specs.declared.Stamped.{Stamped}
use Rattle.stamp_merge.specs.Merge.{items_of}
use Rattle.world_model.specs.World.{numbers}

-- the greatest image, in bytes
abbrev pub max_image : ℕ
max_image = 16777216

-- the greatest stamp
abbrev pub max_stamp : ℕ
max_stamp = 9223372036854775807

-- the most nodes of a script
abbrev pub max_node : ℕ
max_node = 32

-- ---- lines

-- what a node did: it started its next call, or took a frame from another node
abbrev pub act_text : Event → List ℕ
act_text (Run p) = codes "run"
act_text (Take p from) = codes "take " ++ decimal from

-- the line of an event
unfoldable pub event_line : Stamped Event → List ℕ
event_line e = decimal e.stamp ++ codes " " ++ decimal e.node ++ codes " " ++ act_text e.item

-- the line that ends the script, with the number of events
unfoldable pub count_line : ℕ → List ℕ
count_line count = codes "image " ++ decimal count

-- a line with its line feed
abbrev pub ended : List ℕ → List ℕ
ended line = line ++ 10 ∷ []

-- ---- the whole

-- there is a last byte, and it is no line feed
abbrev pub lacks_feed : List ℕ → Bool
lacks_feed bytes = nat_lt 0 (length bytes) && not (slice_index_or bytes (length bytes - 1) 0 == 10)

abbrev pub closed : List ℕ → List ℕ
closed script = if lacks_feed script then ended script else script

-- the events of each node in turn, by rising node
unfoldable pub by_node : List (Stamped Event) → List (Stamped Event)
by_node events = flat_map (λ p. items_of p events) (numbers 1 max_node)

-- the lines of these events
abbrev pub event_lines : List (Stamped Event) → List ℕ
event_lines events = flat_map (λ e. ended (event_line e)) events

-- the image of a script's bytes and of these events
unfoldable pub image_text : List ℕ → List (Stamped Event) → List ℕ
image_text script events = closed script ++ ended (count_line (length events)) ++ event_lines (by_node events)
