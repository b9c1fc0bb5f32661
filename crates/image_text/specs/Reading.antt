-- What an image says: its script and its events in order, or its first fault.
use Rattle.std.specs.Prelude.{ℕ, ◌+◌, ◌-◌, ◌==◌, nat_le, Bool, true, false, ◌&&◌, ◌||◌, List, [], ◌∷◌, ◌++◌, length, if◌then◌else◌, Option, Some, None, Result, Ok, Err}
use Rattle.std.specs.Option.{option_map_or}
use Rattle.pico_base.specs.declared.script.Script.{Script}
use Rattle.stamp_merge.specs.declared.Stamped.{Stamped}
use Rattle.script_reader.specs.declared.fault.ScriptStop.{ScriptStop}
use Rattle.script_reader.specs.declared.fault.ScriptStop.TheVariants as scripts
use Rattle.script_reader.specs.Fault.{outcome, line_behind}
use Rattle.image_text.specs.declared.placed.Placed.{Placed}
use Rattle.image_text.specs.declared.image.Said.{Said}
use Rattle.image_text.specs.declared.fault.ImageFault.TheVariants.{NotAnImage, NotRising}
use Rattle.image_text.specs.declared.fault.ImageStop.{ImageStop}
use Rattle.image_text.specs.declared.fault.ImageStop.TheVariants.{Memory, Script as InScript, At}
use Rattle.image_text.specs.Image.{max_image}
use Rattle.image_text.specs.Parts.{script_of, lines_behind, number_behind, is_large, seen}
use Rattle.image_text.specs.Lines.{count_in, event_in}
use Rattle.image_text.specs.Order.{first_fall, ordered}

abbrev pub Events : Type 0
Events = List (Stamped Placed)

-- one event more, if there is one
abbrev pub with_event : Events → Option (Stamped Placed) → Events
with_event events None = events
with_event events (Some e) = events ++ e ∷ []

-- a line outside the grammar
abbrev pub outside : ℕ → Result Events ImageStop
outside line = Err (At line NotAnImage)

-- As many events as are `left`, and no further line, where the first line has this number, all lines before it are of
-- nodes up to `low`, and these events were read before.
unfoldable pub events_from : ℕ → ℕ → ℕ → ℕ → Events → List (List ℕ) → Result Events ImageStop
events_from nodes left low number done [] = if left == 0 then Ok done else outside number
events_from nodes left low number done (line ∷ lines) =
    if left == 0
    then outside number
    else
    option_map_or
    (λ (e : Stamped Placed). events_from nodes (left - 1) e.node (number + 1) (done ++ e ∷ []) lines)
    (event_in nodes low number line)
    (outside number)

-- the line `image E`, of this number, and E events
unfoldable pub listed : ℕ → ℕ → List (List ℕ) → Result Events ImageStop
listed nodes number [] = outside number
listed nodes number (line ∷ lines) =
    option_map_or (λ count. events_from nodes count 1 (number + 1) [] lines) (count_in line) (outside number)

-- the events in order, or the first one that falls
abbrev pub ordered_or_fall : Events → Result Events ImageStop
ordered_or_fall events = option_map_or (λ line. Err (At line NotRising)) (first_fall events) (Ok (ordered events))

abbrev pub in_order : Result Events ImageStop → Result Events ImageStop
in_order (Err stop) = Err stop
in_order (Ok events) = ordered_or_fall events

abbrev pub with_script : Script → Result Events ImageStop → Result Said ImageStop
with_script script (Err stop) = Err stop
with_script script (Ok events) = Ok (record { script = script; events = events })

-- the events of a text that begins with a script of so many nodes. One that is too large is no image at the line of the
-- first byte too many.
abbrev pub events_of : ℕ → List ℕ → Result Events ImageStop
events_of nodes bytes =
    if is_large bytes
    then outside (line_behind max_image bytes)
    else in_order (listed nodes (number_behind bytes) (lines_behind bytes))

-- the script has a fault
abbrev pub stop_of : ScriptStop → ImageStop
stop_of scripts.Memory = Memory
stop_of (scripts.At line fault) = InScript line fault

abbrev pub of_script : List ℕ → Result Script ScriptStop → Result Said ImageStop
of_script bytes (Err stop) = Err (stop_of stop)
of_script bytes (Ok script) = with_script script (events_of (length script.blocks) bytes)

-- what an image says, or its first fault
unfoldable pub said_by : List ℕ → Result Said ImageStop
said_by image = let bytes = seen image in of_script bytes (outcome (script_of bytes))
