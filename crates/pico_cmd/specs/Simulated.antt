-- What the answer to a script has that is run by a schedule.
use Rattle.std.specs.Prelude.{◌≡◌, Bool, []}
use Rattle.pico_base.specs.declared.script.Script.{Script}
use Rattle.pico_words.specs.declared.words.Options.{Options}
use Rattle.pico_cmd.specs.declared.answer.Answer.{Answer}
use Rattle.pico_cmd.specs.Run.{IsTextOfRun}
use Rattle.pico_cmd.specs.Stalled.{status_left}

-- the text is that of the run, the status says how the run is left, and no outcome of threads is handed back
pub record AnswersRun (script : Script) (options : Options) (a : Answer) : Type 0 where
  pub stalled : Bool
  pub status_is : a.status ≡ status_left stalled
  pub run : IsTextOfRun script options stalled a.text
  pub alone : a.rested ≡ []
