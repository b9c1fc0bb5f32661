-- The answer to a script that is run: the status says how the run is left.
use Rattle.std.proofs.Common.{◌≡◌, ◌⊎◌, inl, ℕ, Bool, true, false, List, [], Result, Ok, Err, refl, sym, ap, subst, ◌∙◌}
use Rattle.std.specs.Prelude.{IfOk}
use Rattle.pico_base.specs.declared.script.Script.{Script}
use Rattle.script_reader.specs.Fault.{Reads}
use Rattle.pico_words.specs.declared.words.Options.{Options}
use Rattle.pico_run.specs.declared.rested.Rested.{Rested}
use Rattle.pico_cmd.specs.declared.answer.Answer.{Answer}
use Rattle.pico_cmd.specs.declared.status.Status.{Status}
use Rattle.pico_cmd.specs.declared.status.Status.TheVariants as status
use Rattle.pico_cmd.specs.Promise.{IsTraceOfThreads, RunsThreads, Simulates}
use Rattle.pico_cmd.specs.Rested.{AnswersWith}
use Rattle.pico_cmd.specs.Run.{IsTextOfRun}
use Rattle.pico_cmd.specs.Simulated.{AnswersRun}
use Rattle.pico_cmd.specs.Stalled.{are_left_stalled, status_left}
use Rattle.pico_cmd.specs.Threads.{IsTotalsOfThreads}
use Rattle.pico_cmd.proofs.Histories.{text_with, totals_with}
use Rattle.pico_cmd.proofs.Left.{IsEnded, ended_so}

-- by a schedule
module _ (bytes : List ℕ) (script : Script) (options : Options) (reads : Reads bytes script) where
  simulates_left : (stalled : Bool) (text : List ℕ) → IsTextOfRun script options stalled text
      → Simulates options bytes (status_left stalled) text
  simulates_left false text run = record { script = script; reads = reads; run = run }
  simulates_left true text run = record { script = script; reads = reads; run = run }

  pub simulates : {E : Type 0} (r : Result Answer E) → IfOk r (AnswersRun script options)
      → IfOk r (λ (a : Answer). Simulates options bytes a.status a.text)
  simulates (Err e) h = tt
  simulates (Ok a) h =
      subst (λ (s : Status). Simulates options bytes s a.text) (sym h.status_is) (simulates_left h.stalled a.text h.run)

  pub simulated_ends : {E : Type 0} (r : Result Answer E) → IfOk r (AnswersRun script options)
      → IfOk r (λ (a : Answer). IsEnded a.status)
  simulated_ends (Err e) h = tt
  simulated_ends (Ok a) h = ended_so a.status h.stalled h.status_is

  pub simulated_status : {E : Type 0} (r : Result Answer E) → IfOk r (AnswersRun script options)
      → IfOk r (λ (a : Answer). IsEnded a.status ⊎ (a.status ≡ status.BadScript))
  simulated_status (Err e) h = tt
  simulated_status (Ok a) h = inl (ended_so a.status h.stalled h.status_is)

  pub simulated_alone : {E : Type 0} (r : Result Answer E) → IfOk r (AnswersRun script options)
      → IfOk r (λ (a : Answer). a.rested ≡ [])
  simulated_alone (Err e) h = tt
  simulated_alone (Ok a) h = h.alone

-- with threads
module _ (bytes : List ℕ) (script : Script) (steps : Bool) (reads : Reads bytes script) where
  threads_left : (rested : List Rested) (stalled : Bool) (text : List ℕ) → IsTraceOfThreads steps bytes text rested
      → are_left_stalled rested ≡ stalled → RunsThreads steps bytes (status_left stalled) text rested
  threads_left rested false text trace is = (trace, is)
  threads_left rested true text trace is = (trace, is)

  pub runs_threads : {E : Type 0} (lines : Bool) (r : Result Answer E) → lines ≡ true
      → IfOk r (AnswersWith script lines steps)
      → IfOk r (λ (a : Answer). RunsThreads steps bytes a.status a.text a.rested)
  runs_threads lines (Err e) wanted h = tt
  runs_threads lines (Ok a) wanted h =
      subst (λ (s : Status). RunsThreads steps bytes s a.text a.rested) (sym h.status_is)
      (threads_left a.rested (are_left_stalled a.rested) a.text
      (record { script = script; reads = reads; run = text_with script lines steps a wanted h }) refl)

  pub threads_end : {E : Type 0} (lines : Bool) (r : Result Answer E) → IfOk r (AnswersWith script lines steps)
      → IfOk r (λ (a : Answer). IsEnded a.status)
  threads_end lines (Err e) h = tt
  threads_end lines (Ok a) h = ended_so a.status (are_left_stalled a.rested) h.status_is

-- where no lines are wanted, of a script whose calls never wait
module _ (script : Script) (lines steps : Bool) (unwanted : lines ≡ false) where
  pub totals_told : {E : Type 0} (other : Script) (r : Result Answer E) → script ≡ other
      → IfOk r (AnswersWith script lines steps)
      → IfOk r (λ (a : Answer). IsTotalsOfThreads other steps a.text a.rested)
  totals_told other (Err e) same h = tt
  totals_told other (Ok a) same h =
      subst (λ (x : Script). IsTotalsOfThreads x steps a.text a.rested) same
      (totals_with script lines steps a unwanted h)

  pub totals_done : {E : Type 0} (r : Result Answer E) → IfOk r (AnswersWith script lines steps)
      → IfOk r (λ (a : Answer). are_left_stalled a.rested ≡ false) → IfOk r (λ (a : Answer). a.status ≡ status.Done)
  totals_done (Err e) h calm = tt
  totals_done (Ok a) h calm = h.status_is ∙ ap status_left calm
