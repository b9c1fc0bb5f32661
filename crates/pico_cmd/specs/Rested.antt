-- The answer of a run with threads, with or without the lines of its journal.
use Rattle.std.specs.Prelude.{◌≡◌, Bool, [], ◌∷◌, ◌++◌}
use Rattle.pico_base.specs.declared.script.Script.{Script}
use Rattle.kernel_model.specs.Trace.{totals_line}
use Rattle.pico_run.specs.declared.rested.Rested.{Rested}
use Rattle.pico_cmd.specs.declared.answer.Answer.{Answer}
use Rattle.pico_cmd.specs.Run.{steps_if}
use Rattle.pico_cmd.specs.Telling.{lines_if}
use Rattle.pico_cmd.specs.Stalled.{are_left_stalled, status_left}
use Rattle.pico_cmd.specs.Threads.{IsOneHistory, entries_in, events_in}

-- the run's outcome is handed back, and its journal's lines, where they are wanted, its totals and its events, where
-- they are wanted, are the text
pub record AnswersWith (script : Script) (lines steps : Bool) (a : Answer) : Type 0 where
  pub status_is : a.status ≡ status_left (are_left_stalled a.rested)
  pub one : Rested
  pub handed : a.rested ≡ one ∷ []
  pub history : IsOneHistory script one
  pub is_text : a.text
      ≡ (lines_if lines script (entries_in one) ++ totals_line (entries_in one)) ++ steps_if steps (events_in one)
