-- Words of the worked examples.
use Rattle.std.specs.Prelude.{ℕ, true, false, List, [], ◌∷◌, ◌++◌, Option, Some, None}
use Rattle.pico_base.specs.declared.call.Call.{Call}
use Rattle.pico_base.specs.declared.reply.Entry.{Entry}
use Rattle.pico_base.specs.declared.script.Line.{Line}
use Rattle.pico_base.specs.declared.script.Block.{Block}
use Rattle.pico_base.specs.declared.script.Script.{Script}
use Rattle.pico_base.specs.declared.script.Event.{Event}
use Rattle.rpc_frame.specs.declared.frame.Frame.{Frame}
use Rattle.world_model.specs.Step.{Step}
use Rattle.world_model.specs.Turn.{take_frame}
use Rattle.world_model.specs.World.{World, step, is_enabled}
use Rattle.world_model.specs.Schedule.{enabled_events}

abbrev pub line : Option ℕ → ℕ → Option ℕ → Call → Line
line set tries «from» call = record { set = set; tries = tries; «from» = «from»; call = call }

abbrev pub block : List ℕ → List Line → Block
block name lines = record { name = name; lines = lines }

abbrev pub script : List Block → Script
script blocks = record { blocks = blocks }

-- what a node enters as it takes these frames, each from a node
abbrev pub entries_after : Script → Step → List (ℕ × Frame) → Option (List Entry)
entries_after script s [] = Some s.entries
entries_after script s ((«from», frame) ∷ frames) =
    elim (take_frame script s.node «from» frame) [
      | None ↦ None
      | Some next ↦ entries_after script (record next { entries = s.entries ++ next.entries }) frames
    ]

-- the world after these events, where each is enabled when it comes
abbrev pub after_events : World → List Event → Option World
after_events w [] = Some w
after_events w (e ∷ events) =
    elim (is_enabled w e)
    [ false ↦ None | true ↦ elim (step w e) [ None ↦ None | Some next ↦ after_events next events ] ]

abbrev pub journal_in : Option World → Option (List Entry)
journal_in None = None
journal_in (Some w) = Some w.journal

abbrev pub journal_of : World → List Event → Option (List Entry)
journal_of w events = journal_in (after_events w events)

-- the same where no event is enabled afterwards
abbrev pub journal_if : List Event → World → Option (List Entry)
journal_if [] w = Some w.journal
journal_if (e ∷ events) w = None

abbrev pub rest_journal_in : Option World → Option (List Entry)
rest_journal_in None = None
rest_journal_in (Some w) = journal_if (enabled_events w) w

abbrev pub at_rest_journal : World → List Event → Option (List Entry)
at_rest_journal w events = rest_journal_in (after_events w events)
