-- What the outcome of a run with threads is by the laws of runs: one history.
use Rattle.std.proofs.Common.{◌≡◌, ℕ, Bool, true, false, List, [], ◌∷◌, ◌++◌, map, take, Option, refl, sym, ap, subst, ◌∙◌}
use Rattle.std.specs.Prelude.{IfSome}
use Rattle.pico_base.specs.declared.script.Event.{Event}
use Rattle.pico_base.specs.declared.script.Script.{Script}
use Rattle.pico_base.specs.declared.reply.Entry.{Entry}
use Rattle.waiting_model.specs.Fitting.{FitsWhole}
use Rattle.waiting_model.specs.History.{IsLegal}
use Rattle.kernel_model.specs.Script.{IsSoundScript}
use Rattle.kernel_model.specs.Trace.{totals_line}
use Rattle.world_model.specs.World.{World, opening_world}
use Rattle.world_model.specs.Run.{IsRunOf}
use Rattle.rest_laws.specs.Laws.{never_waits}
use Rattle.log_laws.specs.Merge.{NodeTurn, event_of, events_of}
use Rattle.log_laws.specs.EventLogs.{event_item}
use Rattle.pico_run.specs.declared.rested.Rested.{Rested}
use Rattle.pico_run.specs.Rested.{IsRested}
use Rattle.pico_cmd.specs.declared.answer.Answer.{Answer}
use Rattle.pico_cmd.specs.Stalled.{are_left_stalled, is_left_stalled, status_left}
use Rattle.pico_cmd.specs.Run.{steps_if}
use Rattle.pico_cmd.specs.Telling.{lines_if}
use Rattle.pico_cmd.specs.Threads.{IsOneHistory, IsTextOfThreads, IsTotalsOfThreads, entries_in, events_in}
use Rattle.pico_cmd.specs.Rested.{AnswersWith}
use Rattle.pico_cmd.proofs.Ends.{runs_keep}
use Rattle.pico_cmd.proofs.Left.{left_alone, left_as_last}
use Rattle.pico_cmd.proofs.RunLaws.{Laws, left_as}

-- the events of turns, without their stamps
items_are_events : (turns : List NodeTurn) → map (λ e. e.item) (map event_item turns) ≡ events_of turns
items_are_events [] = refl
items_are_events (t ∷ turns) = ap (λ (es : List Event). event_of t ∷ es) (items_are_events turns)

-- the events that are handed back are a run
pub run_of : (script : Script) (r : Rested) (k : IsRested script r) → IsRunOf script (events_in r) k.world
run_of script r k =
    subst (λ (es : List Event). IsRunOf script es k.world)
    (sym (ap (λ es. map (λ e. e.item) es) k.events ∙ items_are_events k.turns)) k.run.runs

-- The outcome is one history.
pub history_of : Laws → (script : Script) (r : Rested) → IsSoundScript script → IsRested script r
    → IsOneHistory script r
history_of laws script r sound k =
    let run : IsRunOf script (events_in r) k.world = run_of script r k
    in let entered : k.world.journal ≡ entries_in r = sym k.entries
    in record {
      rested = k;
      run = run;
      legal = subst IsLegal entered (laws.legal script k.world sound (events_in r, run)).0;
      whole = subst (FitsWhole script) entered (laws.whole script k.world sound (events_in r, run) k.rest);
      legal_so_far = λ count w front. (laws.legal script w sound (take count (events_in r), front)).0;
      owners = λ count w kernel name front. laws.owners script w kernel name sound (take count (events_in r), front);
      quiet = laws.quiet script k.world sound (events_in r, run) k.rest;
      left = left_as laws script k.world (is_left_stalled r) sound (events_in r, run) k.rest (left_as_last script r k);
      short = laws.short script sound (events_in r) k.world run;
    }

-- the world is there
pub world_is_there : (script : Script) (r : Rested) (k : IsRested script r) → (P : World → Type 0)
    → IfSome r.world P → P k.world
world_is_there script r k P h = subst (λ (o : Option World). IfSome o P) k.is_world h

-- what is told of the outcome's world is told of the script and of the journal that is handed back
told_of : (script : Script) (lines : Bool) (r : Rested) (k : IsRested script r) (text : List ℕ)
    → text ≡ lines_if lines k.world.script k.world.journal ++ totals_line k.world.journal
    → text ≡ lines_if lines script (entries_in r) ++ totals_line (entries_in r)
told_of script lines r k text e =
    e
    ∙ ap (λ (s : Script). lines_if lines s k.world.journal ++ totals_line k.world.journal)
    (runs_keep (opening_world script) k.world (events_in r) (run_of script r k))
    ∙ ap (λ (es : List Entry). lines_if lines script es ++ totals_line es) (sym k.entries)

-- the answer of a run with threads
pub answers_with : Laws → (script : Script) (lines steps : Bool) (r : Rested) (told text : List ℕ) (a : Answer)
    → IsSoundScript script → (k : IsRested script r)
    → told ≡ lines_if lines k.world.script k.world.journal ++ totals_line k.world.journal
    → text ≡ told ++ steps_if steps (events_in r)
    → a.status ≡ status_left (is_left_stalled r) → a.text ≡ text → a.rested ≡ r ∷ []
    → AnswersWith script lines steps a
answers_with laws script lines steps r told text a sound k of_world with_steps left is handed =
    record {
      status_is = left ∙ ap status_left (sym (left_alone r) ∙ ap are_left_stalled (sym handed));
      one = r;
      handed = handed;
      history = history_of laws script r sound k;
      is_text = is ∙ with_steps
          ∙ ap (λ (t : List ℕ). t ++ steps_if steps (events_in r)) (told_of script lines r k told of_world);
    }

-- no run of a script whose calls never wait is left stalled
pub never_left_stalled : Laws → (script : Script) (r : Rested) (rested : List Rested) → IsSoundScript script
    → IsRested script r → rested ≡ r ∷ [] → never_waits script ≡ true → are_left_stalled rested ≡ false
never_left_stalled laws script r rested sound k handed never =
    ap are_left_stalled handed ∙ left_alone r ∙ sym (left_as_last script r k)
    ∙ laws.never script k.world sound never (events_in r, run_of script r k) k.rest

-- where lines are wanted it is the text of the run
pub text_with : (script : Script) (lines steps : Bool) (a : Answer) → lines ≡ true → AnswersWith script lines steps a
    → IsTextOfThreads script steps a.text a.rested
text_with script lines steps a wanted k =
    record {
      one = k.one;
      handed = k.handed;
      history = k.history;
      is_text = k.is_text
          ∙ ap (λ (b : Bool). (lines_if b script (entries_in k.one) ++ totals_line (entries_in k.one))
          ++ steps_if steps (events_in k.one)) wanted;
    }

-- and where they aren't its totals
pub totals_with : (script : Script) (lines steps : Bool) (a : Answer) → lines ≡ false → AnswersWith script lines steps a
    → IsTotalsOfThreads script steps a.text a.rested
totals_with script lines steps a wanted k =
    record {
      one = k.one;
      handed = k.handed;
      history = k.history;
      is_text = k.is_text
          ∙ ap (λ (b : Bool). (lines_if b script (entries_in k.one) ++ totals_line (entries_in k.one))
          ++ steps_if steps (events_in k.one)) wanted;
    }
