-- The image of a script after the first events of its run by schedule 0.
use Rattle.std.specs.Prelude.{◌≡◌, ◌⊎◌, ◌≤◌, ℕ, ◌+◌, List, [], ◌∷◌, length}
use Rattle.pico_base.specs.declared.script.Script.{Script}
use Rattle.pico_base.specs.declared.script.Event.{Event}
use Rattle.stamp_merge.specs.declared.Stamped.{Stamped}
use Rattle.script_reader.specs.Fault.{Reads}
use Rattle.world_model.specs.World.{World, opening_world, node_count}
use Rattle.world_model.specs.Run.{IsRunOf, IsAtRest}
use Rattle.world_model.specs.Schedule.{Schedule, node_of, schedule_of}
use Rattle.image_text.specs.Image.{image_text}
use Rattle.pico_cmd.specs.Taking.{Takes}

-- the first so many events that schedule 0 takes, or all where it comes to rest earlier
pub record AreFirst (script : Script) (count : ℕ) (events : List Event) : Type 0 where
  pub world : World
  pub schedule : Schedule
  pub takes : Takes (opening_world script) (schedule_of 0 (node_count script)) events world schedule
  pub run : IsRunOf script events world
  pub all : (length events ≡ count) ⊎ ((length events ≤ count) × IsAtRest world)

-- an event of this stamp
abbrev pub stamped_event : ℕ → Event → Stamped Event
stamped_event stamp e = record { stamp = stamp; node = node_of e; item = e }

-- events whose first has this stamp, and each further one the next
abbrev pub stamped_from : ℕ → List Event → List (Stamped Event)
stamped_from stamp [] = []
stamped_from stamp (e ∷ events) = stamped_event stamp e ∷ stamped_from (stamp + 1) events

-- the same, each with its place as its stamp
pub record AreFirstStamped (script : Script) (count : ℕ) (stamped : List (Stamped Event)) : Type 0 where
  pub events : List Event
  pub first : AreFirst script count events
  pub are_stamped : stamped ≡ stamped_from 1 events

-- the bytes are a script, and the text is the image of exactly these bytes and of so many first events
pub record IsFrozen (count : ℕ) (bytes text : List ℕ) : Type 0 where
  pub script : Script
  pub reads : Reads bytes script
  pub events : List Event
  pub first : AreFirst script count events
  pub is_text : text ≡ image_text bytes (stamped_from 1 events)
