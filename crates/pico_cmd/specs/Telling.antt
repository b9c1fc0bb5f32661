-- What was told of a history: the lines of its entries, where they are wanted, and what the totals count.
use Rattle.std.specs.Prelude.{◌≡◌, ℕ, Bool, true, false, List, [], Option, Some}
use Rattle.std.specs.List.{flat_map}
use Rattle.pico_base.specs.declared.script.Script.{Script}
use Rattle.pico_base.specs.declared.script.Event.{Event}
use Rattle.pico_base.specs.declared.reply.Entry.{Entry}
use Rattle.kernel_model.specs.Trace.{entry_line}
use Rattle.world_model.specs.World.{World}
use Rattle.world_core.specs.Behind.{behind}
use Rattle.trace_text.specs.Totals.{tally_of}
use Rattle.pico_cmd.specs.declared.telling.Telling.{Telling}
use Rattle.pico_cmd.specs.Run.{IsScheduledRun}
use Rattle.pico_cmd.specs.Stalled.{IsLeftAs}

-- the lines of these entries, where they are wanted
abbrev pub lines_if : Bool → Script → List Entry → List ℕ
lines_if true script entries = flat_map (entry_line script) entries
lines_if false script entries = []

-- just these entries were told
pub record Tells (script : Script) (entries : List Entry) (telling : Telling) : Type 0 where
  pub text : telling.text.items ≡ lines_if telling.lines script entries
  pub tally : telling.tally ≡ tally_of entries

-- what was told and what a world still keeps of its journal make up this world
pub record MakeUp (whole : World) (telling : Telling) (world : Option World) : Type 0 where
  pub told : List Entry
  pub kept : World
  pub is_kept : world ≡ Some kept
  pub is_whole : behind told kept ≡ whole
  pub tells : Tells whole.script told telling

-- the events, where they are wanted
abbrev pub kept_if : Bool → List Event → List Event
kept_if true events = events
kept_if false events = []

-- the run of a script that the schedule of this number takes, which is left so, whose whole journal was told, and of
-- whose events these were kept
pub record IsToldRun (script : Script) (seed : ℕ) (steps : Bool) (kept : List Event) (stalled : Bool)
    (telling : Telling) : Type 0 where
  pub events : List Event
  pub last : World
  pub run : IsScheduledRun script seed events last
  pub left : IsLeftAs stalled last
  pub are_kept : kept ≡ kept_if steps events
  pub tells : Tells last.script last.journal telling
