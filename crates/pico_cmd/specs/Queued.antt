-- What a run of a script of POSIX message queues comes to.
use Rattle.std.specs.Prelude.{◌≡◌, ℕ, Bool, List, [], ◌∷◌, ◌++◌}
use Rattle.pico_base.specs.declared.script.Script.{Script}
use Rattle.posix_mq.specs.declared.script.MqScript.{MqScript}
use Rattle.mq_model.specs.Fitting.{FitsWhole}
use Rattle.mq_model.specs.History.{IsLegal}
use Rattle.mq_model.specs.Lines.{script_given}
use Rattle.mq_model.specs.Shown.{history_of}
use Rattle.mq_model.specs.SystemV.{system_v}
use Rattle.mq_model.specs.Text.{mq_trace_text}
use Rattle.pico_run.specs.declared.rested.Rested.{Rested}
use Rattle.pico_cmd.specs.declared.answer.Answer.{Answer}
use Rattle.pico_cmd.specs.Run.{steps_if}
use Rattle.pico_cmd.specs.Stalled.{are_left_stalled, status_left}
use Rattle.pico_cmd.specs.Threads.{IsOneHistory, entries_in, events_in}

-- the given script of what was read
abbrev pub given_in : MqScript → Script
given_in read = script_given read.script read.lines

-- The outcome of one run of the script of System V is handed back. What its journal stands for, entry by entry and by
-- the same nodes, is legal as a history of POSIX message queues and fits the given script whole, and is the text, with
-- the events behind it where they are wanted.
pub record IsTextOfQueues (given : Script) (steps : Bool) (text : List ℕ) (rested : List Rested) : Type 0 where
  pub one : Rested
  pub handed : rested ≡ one ∷ []
  pub run : IsOneHistory (system_v given) one
  pub legal : IsLegal (history_of given (entries_in one))
  pub fits : FitsWhole given (history_of given (entries_in one))
  pub is_text : text
      ≡ mq_trace_text (system_v given) (history_of given (entries_in one)) ++ steps_if steps (events_in one)

-- the outcome is handed back, and its text is that of the answer
pub record AnswersQueues (given : Script) (steps : Bool) (a : Answer) : Type 0 where
  pub status_is : a.status ≡ status_left (are_left_stalled a.rested)
  pub run : IsTextOfQueues given steps a.text a.rested
