-- What `mq` reads of the source, and what is promised of its answer.
use Rattle.std.proofs.Common.{refl, ◌≡◌, ◌⊎◌, ℕ, ◌<◌, Bool, true, false, List, [], ◌∷◌, ◌++◌, length, take, Option, Some, None, ap, sym, subst, ◌∙◌, arith, inl, inr, length-take}
use Rattle.std.specs.Prelude.{IfOk, IfSome, nat_lt, Result, Ok, Err}
use Rattle.std.proofs.lemmas.Bool.{lt-ltb}
use Rattle.std.proofs.lemmas.List.{take-take}
use Rattle.pico_base.specs.declared.reply.Entry.{Entry}
use Rattle.pico_base.specs.declared.script.Script.{Script}
use Rattle.kernel_model.specs.Script.{IsSoundScript}
use Rattle.waiting_model.specs.Fitting as plain
use Rattle.script_reader.specs.declared.fault.ScriptFault.{ScriptFault}
use Rattle.mq_model.specs.Given.{IsGiven}
use Rattle.mq_model.specs.Reading.{Reads, IsFirstFault, outcome}
use Rattle.mq_model.specs.Shown.{history_of}
use Rattle.mq_model.specs.SystemV.{system_v}
use Rattle.mq_model.specs.Text.{mq_trace_text}
use Rattle.mq_laws.specs.Histories.{HistoriesAreLegal, HistoriesFitWhole}
use Rattle.pico_words.specs.declared.words.Request.TheVariants.{Queues}
use Rattle.pico_run.specs.declared.rested.Rested.{Rested}
use Rattle.pico_run.specs.Rested.{IsRested}
use Rattle.pico_cmd.specs.declared.answer.Answer.{Answer}
use Rattle.pico_cmd.specs.declared.status.Status.{Status}
use Rattle.pico_cmd.specs.declared.status.Status.TheVariants as status
use Rattle.pico_cmd.specs.Promise.{AnswersTold, CauseOfQueues, EachCause, IsTraceOfQueues, OrStalled, RunsQueues}
use Rattle.pico_cmd.specs.Queued.{AnswersQueues, IsTextOfQueues}
use Rattle.pico_cmd.specs.Run.{steps_if}
use Rattle.pico_cmd.specs.Stalled.{are_left_stalled, is_left_stalled, status_left}
use Rattle.pico_cmd.specs.Stop.{AreBytesUpTo}
use Rattle.pico_cmd.specs.Threads.{IsOneHistory, entries_in, events_in}
use Rattle.pico_cmd.proofs.Histories as histories
use Rattle.pico_cmd.proofs.Left.{IsEnded, ended_or_stalled, ended_so, left_alone}
use Rattle.pico_cmd.proofs.RunLaws.{Laws}

-- ---- the answer of a run

pub record QueueLaws : Type 0 where
  pub legal : HistoriesAreLegal
  pub whole : HistoriesFitWhole

-- what fits to its end fits
fits : (script : Script) (journal : List Entry) → plain.FitsWhole script journal → plain.Fits script journal
fits script journal whole = record { last = whole.last; fits = whole.fits }

-- what is told of a run's outcome, which is one history of the script of System V that runs a given one
told_of : QueueLaws → (given : Script) (steps : Bool) (r : Rested) (text : List ℕ) (rested : List Rested)
    → IsGiven given → IsOneHistory (system_v given) r → rested ≡ r ∷ []
    → text ≡ mq_trace_text (system_v given) (history_of given (entries_in r)) ++ steps_if steps (events_in r)
    → IsTextOfQueues given steps text rested
told_of laws given steps r text rested is_given one handed is =
    record {
      one = r;
      handed = handed;
      run = one;
      legal = laws.legal given (entries_in r) is_given one.legal (fits (system_v given) (entries_in r) one.whole);
      fits = laws.whole given (entries_in r) is_given one.legal one.whole;
      is_text = is;
    }

-- the answer of a run with threads
pub answers_queues : Laws → QueueLaws → (given script : Script) (steps : Bool) (r : Rested) (told text : List ℕ)
    (a : Answer) → IsGiven given → IsSoundScript script → script ≡ system_v given → (k : IsRested script r)
    → told ≡ mq_trace_text script (history_of given k.world.journal)
    → text ≡ told ++ steps_if steps (events_in r)
    → a.status ≡ status_left (is_left_stalled r) → a.text ≡ text → a.rested ≡ r ∷ []
    → AnswersQueues given steps a
answers_queues laws more given script steps r told text a is_given sound runs k of_world with_steps left is handed =
    let one : IsOneHistory (system_v given) r =
    subst (λ (s : Script). IsOneHistory s r) runs (histories.history_of laws script r sound k)
    in let of_entries : told ≡ mq_trace_text (system_v given) (history_of given (entries_in r)) =
    of_world
    ∙ ap (λ (s : Script). mq_trace_text s (history_of given k.world.journal)) runs
    ∙ ap (λ (es : List Entry). mq_trace_text (system_v given) (history_of given es)) (sym k.entries)
    in record {
      status_is = left ∙ ap status_left (sym (left_alone r) ∙ ap are_left_stalled (sym handed));
      run =
          told_of more given steps r a.text a.rested is_given one handed
          (is ∙ with_steps ∙ ap (λ (t : List ℕ). t ++ steps_if steps (events_in r)) of_entries);
    }

-- ---- the answer to the bytes

queues_left : (steps : Bool) (bytes text : List ℕ) (rested : List Rested) (stalled : Bool)
    → IsTraceOfQueues steps bytes text rested → are_left_stalled rested ≡ stalled
    → RunsQueues steps bytes (status_left stalled) text rested
queues_left steps bytes text rested false trace is = (trace, is)
queues_left steps bytes text rested true trace is = (trace, is)

-- that of a run
pub runs_queues : {E : Type 0} (steps : Bool) (bytes : List ℕ) (given : Script) (r : Result Answer E)
    → Reads bytes given → IfOk r (AnswersQueues given steps)
    → IfOk r (λ (a : Answer). RunsQueues steps bytes a.status a.text a.rested)
runs_queues steps bytes given (Err e) reads h = tt
runs_queues steps bytes given (Ok a) reads h =
    let trace : IsTraceOfQueues steps bytes a.text a.rested = record { given = given; reads = reads; run = h.run } in
    subst (λ (s : Status). RunsQueues steps bytes s a.text a.rested) (sym h.status_is)
    (queues_left steps bytes a.text a.rested (are_left_stalled a.rested) trace refl)

-- which is Done or Stalled
pub queues_end : {E : Type 0} (steps : Bool) (given : Script) (r : Result Answer E) → IfOk r (AnswersQueues given steps)
    → IfOk r (λ (a : Answer). IsEnded a.status)
queues_end steps given (Err e) h = tt
queues_end steps given (Ok a) h = ended_so a.status (are_left_stalled a.rested) h.status_is

-- ---- the bytes that were left

-- More bytes than a script has are judged by their front: their fault is that of its size, at the same line.
front_outcome : (bytes left : List ℕ) → 1048576 < length left → bytes ≡ take 1048577 left
    → outcome bytes ≡ outcome left
unfolding outcome
front_outcome bytes left long e =
    let is_long : nat_lt 1048576 (length left) ≡ true = lt-ltb _ _ long
    in let read : nat_lt 1048576 (length bytes) ≡ true =
    lt-ltb _ _ (omega (arith, ap length e, length-take 1048577 left))
    in let front : take 1048576 bytes ≡ take 1048576 left =
    ap (take 1048576) e ∙ take-take 1048576 1048577 left (omega arith)
    in rw (is_long, read, front) refl

-- what was read is judged as what was left
outcome_left : (bytes left : List ℕ) → AreBytesUpTo 1048576 bytes left → outcome bytes ≡ outcome left
outcome_left bytes left (inl same) = ap outcome same.0
outcome_left bytes left (inr long) = front_outcome bytes left long.0 long.1

trace_left : (steps : Bool) (bytes left text : List ℕ) (rested : List Rested) → AreBytesUpTo 1048576 bytes left
    → IsTraceOfQueues steps bytes text rested → IsTraceOfQueues steps left text rested
trace_left steps bytes left text rested r a =
    record { given = a.given; reads = sym (outcome_left bytes left r) ∙ a.reads; run = a.run }

-- what goes with the bytes that were read goes with those that were left
RunsQueues-left : (steps : Bool) (bytes left : List ℕ) (s : Status) (text : List ℕ) (rested : List Rested)
    → AreBytesUpTo 1048576 bytes left → RunsQueues steps bytes s text rested → RunsQueues steps left s text rested
RunsQueues-left steps bytes left status.Done text rested r a = (trace_left steps bytes left text rested r a.0, a.1)
RunsQueues-left steps bytes left status.Stalled text rested r a = (trace_left steps bytes left text rested r a.0, a.1)
RunsQueues-left steps bytes left status.BadScript text rested r a = (
  record {
    line = a.0.line;
    fault = a.0.fault;
    first = sym (outcome_left bytes left r) ∙ a.0.first;
    is_text = a.0.is_text;
  },
  a.1,
)
RunsQueues-left steps bytes left status.Usage text rested r a = a
RunsQueues-left steps bytes left status.Memory text rested r a = a
RunsQueues-left steps bytes left status.ReadFault text rested r a = a
RunsQueues-left steps bytes left status.WriteFault text rested r a = a
RunsQueues-left steps bytes left status.NotLegal text rested r a = a
RunsQueues-left steps bytes left status.BadImage text rested r a = a

-- and with the source, whether it tells its bytes or not
pub told_queues : (steps : Bool) (told : Option (List ℕ)) (bytes read : List ℕ) (s : Status) (text : List ℕ)
    (rested : List Rested) → IfSome told (AreBytesUpTo 1048576 bytes) → read ≡ bytes
    → RunsQueues steps read s text rested → AnswersTold (Queues steps) told s text rested
told_queues steps None bytes read s text rested r e a = record { bytes = read; told = tt; answers = a }
told_queues steps (Some left) bytes read s text rested r e a =
    record {
      bytes = left;
      told = refl;
      answers =
          RunsQueues-left steps bytes left s text rested r
          (subst (λ (b : List ℕ). RunsQueues steps b s text rested) e a);
    }

-- ---- causes

queues_cause : (bytes left : List ℕ) (got : Status) → AreBytesUpTo 1048576 bytes left
    → ((given : Script) → Reads bytes given → IsEnded got)
    → ((line : ℕ) (fault : ScriptFault) → IsFirstFault bytes line fault → got ≡ status.BadScript)
    → (s : Status) → CauseOfQueues left s → OrStalled (λ s. got ≡ s) s
queues_cause bytes left got r done bad status.Done c = ended_or_stalled got (done c.0 (outcome_left bytes left r ∙ c.1))
queues_cause bytes left got r done bad status.BadScript c = inl (bad c.0 c.1 (outcome_left bytes left r ∙ c.2))
queues_cause bytes left got r done bad status.Stalled c = absurd c
queues_cause bytes left got r done bad status.Usage c = absurd c
queues_cause bytes left got r done bad status.Memory c = absurd c
queues_cause bytes left got r done bad status.ReadFault c = absurd c
queues_cause bytes left got r done bad status.WriteFault c = absurd c
queues_cause bytes left got r done bad status.NotLegal c = absurd c
queues_cause bytes left got r done bad status.BadImage c = absurd c

-- a status that follows from what was read follows from what the source had left
pub queues_causes : (steps : Bool) (told : Option (List ℕ)) (bytes read : List ℕ) (got : Status)
    → IfSome told (AreBytesUpTo 1048576 bytes) → read ≡ bytes
    → ((given : Script) → Reads read given → IsEnded got)
    → ((line : ℕ) (fault : ScriptFault) → IsFirstFault read line fault → got ≡ status.BadScript)
    → EachCause (Some (Queues steps)) told (λ s. got ≡ s)
queues_causes steps None bytes read got r e done bad = tt
queues_causes steps (Some left) bytes read got r e done bad = λ s c.
    queues_cause read left got (subst (λ (b : List ℕ). AreBytesUpTo 1048576 b left) (sym e) r) done bad s c
