-- The text of a list of events.
use Rattle.std.specs.Prelude.{◌≡◌, ℕ, List, [], ◌∷◌, ◌++◌, length, codes, refl}
use Rattle.std.specs.List.{flat_map}
use Rattle.std.specs.Fmt.{decimal, digits}
use Rattle.pico_base.specs.declared.script.Event.{Event}
use Rattle.pico_base.specs.declared.script.Event.TheVariants.{Run, Take}

-- a node starts its next call, or takes a frame from another
abbrev pub event_line : Event → List ℕ
event_line (Run node) = codes "run " ++ decimal node ++ 10 ∷ []
event_line (Take node from) = codes "take " ++ decimal node ++ codes " from " ++ decimal from ++ 10 ∷ []

abbrev pub steps_line : ℕ → List ℕ
steps_line count = codes "steps " ++ decimal count ++ 10 ∷ []

-- a line with their number, and a line for each, in order
abbrev pub steps_text : List Event → List ℕ
steps_text events = steps_line (length events) ++ flat_map event_line events

-- an example: node 1 makes a call, node 2 takes what it sent, and node 1 the answer
abbrev pub ask_and_answer : List Event
ask_and_answer = Run 1 ∷ Take 2 1 ∷ Take 1 2 ∷ []

pub ask-and-answer-text : steps_text ask_and_answer ≡ codes "steps 3\nrun 1\ntake 2 from 1\ntake 1 from 2\n"
unfolding digits
ask-and-answer-text = refl
