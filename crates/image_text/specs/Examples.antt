-- Worked examples of images, computed by the checker.
use Rattle.std.specs.Prelude.{◌≡◌, ℕ, refl, List, [], ◌∷◌, ◌++◌, codes, Some, None, Ok, Err}
use Rattle.std.specs.Fmt.{digits}
use Rattle.pico_base.specs.declared.script.Event.{Event}
use Rattle.pico_base.specs.declared.script.Event.TheVariants.{Run, Take}
use Rattle.quoted_bytes.specs.Front.{strip}
use Rattle.text_fields.specs.Fields.{digit_at, digits_front, number_at}
use Rattle.script_reader.specs.Words.{words_in}
use Rattle.stamp_merge.specs.declared.Stamped.{Stamped}
use Rattle.image_text.specs.declared.placed.Placed.{Placed}
use Rattle.image_text.specs.declared.fault.ImageFault.TheVariants.{NotAnImage, NotRising}
use Rattle.image_text.specs.declared.fault.ImageStop.TheVariants.{At}
use Rattle.image_text.specs.Image.{event_line, count_line, by_node, image_text}
use Rattle.image_text.specs.Parts.{ends_script, end_place, size_of, script_of}
use Rattle.image_text.specs.Lines.{count_in, node_at, take_in, act_in, event_in}
use Rattle.image_text.specs.Order.{fall_behind, first_fall, ordered}
use Rattle.image_text.specs.Reading.{events_from, listed, events_of}

abbrev pub feed : List ℕ
feed = 10 ∷ []

-- two processes and a queue
abbrev pub script_text : List ℕ
script_text =
    codes "proc main" ++ feed ++ codes "q = msgget private" ++ feed ++ codes "msgrcv $q 0 8 nowait" ++ feed
    ++ codes "fork child" ++ feed ++ codes "end" ++ feed ++ codes "proc child" ++ feed
    ++ codes "msgrcv $q 0 8 nowait" ++ feed ++ codes "end" ++ feed

abbrev pub happened : ℕ → ℕ → Event → Stamped Event
happened stamp node event = record { stamp = stamp; node = node; item = event }

abbrev pub in_line : ℕ → ℕ → ℕ → Event → Stamped Placed
in_line line stamp node event =
    record { stamp = stamp; node = node; item = record { line = line; event = event } }

-- after two steps
abbrev pub two_steps : List ℕ
two_steps = script_text ++ codes "image 2" ++ feed ++ codes "1 1 run" ++ feed ++ codes "2 1 run" ++ feed

pub writes_two_steps : image_text script_text (happened 1 1 (Run 1) ∷ happened 2 1 (Run 1) ∷ []) ≡ two_steps
unfolding image_text by_node count_line event_line digits
writes_two_steps = refl

pub reads_two_steps : events_of 2 two_steps ≡ Ok (in_line 10 1 1 (Run 1) ∷ in_line 11 2 1 (Run 1) ∷ [])
unfolding end_place ends_script words_in listed events_from count_in event_in node_at act_in strip number_at digit_at
    digits_front first_fall fall_behind ordered
reads_two_steps = refl

-- one line is missing behind the last one
pub one_is_missing : events_of 2
    (script_text ++ codes "image 3" ++ feed ++ codes "1 1 run" ++ feed ++ codes "2 1 run" ++ feed)
    ≡ Err (At 12 NotAnImage)
unfolding end_place ends_script words_in listed events_from count_in event_in node_at act_in strip number_at digit_at
    digits_front first_fall fall_behind ordered
one_is_missing = refl

-- node 2's event came first; the lines stand by node
pub in_order_of_stamps : events_of 2
    (script_text ++ codes "image 2" ++ feed ++ codes "7 1 run" ++ feed ++ codes "5 2 take 1")
    ≡ Ok (in_line 11 5 2 (Take 2 1) ∷ in_line 10 7 1 (Run 1) ∷ [])
unfolding end_place ends_script words_in listed events_from count_in event_in node_at take_in act_in strip number_at
    digit_at digits_front first_fall fall_behind ordered
in_order_of_stamps = refl

-- a stamp stands twice
pub one_falls : events_of 2 (script_text ++ codes "image 2" ++ feed ++ codes "1 1 run" ++ feed ++ codes "1 1 run")
    ≡ Err (At 11 NotRising)
unfolding end_place ends_script words_in listed events_from count_in event_in node_at act_in strip number_at digit_at
    digits_front first_fall fall_behind ordered
one_falls = refl

-- the line feed just before the line `image` isn't part of the script
pub without_the_feed : script_of (codes "end" ++ feed ++ feed ++ codes "image 0") ≡ codes "end" ++ feed
unfolding end_place ends_script size_of words_in
without_the_feed = refl
