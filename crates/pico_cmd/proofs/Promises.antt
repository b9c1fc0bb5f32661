-- From the bytes that are read to the bytes that were left, and from an answer to what is promised of it.
use Rattle.std.proofs.Common.{refl, ◌≡◌, ℕ, ◌+◌, ◌<◌, ◌≤◌, List, [], ◌++◌, length, drop, take, Option, Some, None, ap, sym, subst, ◌∙◌, arith, inl, inr, length-take}
use Rattle.std.proofs.lemmas.Bool.{lt-ltb}
use Rattle.std.proofs.lemmas.List.{drop_all, take_all, take-take}
use Rattle.std.proofs.Math.Seq.{drop-append_seam}
use Rattle.host_iface.specs.Told.{led_by}
use Rattle.std.specs.Prelude.{Bool, false, IfErr, IfSome, is_some, nat_lt, true, Result, Ok, Err}
use Rattle.pico_base.specs.declared.script.Script.{Script}
use Rattle.script_reader.specs.declared.fault.ScriptFault.{ScriptFault}
use Rattle.script_reader.specs.Fault.{Reads, IsFirstFault, outcome}
use Rattle.pico_cmd.specs.declared.status.Status.{Status}
use Rattle.pico_cmd.specs.declared.status.Status.TheVariants as status
use Rattle.pico_words.specs.declared.words.Options.{Options}
use Rattle.pico_words.specs.declared.words.Request.{Request}
use Rattle.pico_words.specs.declared.words.Request.TheVariants.{Run, Simulate, Check, Generate, Boxes, Queues, Freeze, Thaw}
use Rattle.pico_cmd.specs.declared.program.Stop.{Stop}
use Rattle.pico_cmd.specs.declared.program.Stop.TheVariants.{Memory, ReadFault}
use Rattle.pico_cmd.specs.Stop.{AreBytesUpTo, IsReadFault, left_behind, most_read}
use Rattle.script_writer.specs.Generated.{generated}
use Rattle.pico_run.specs.declared.rested.Rested.{Rested}
use Rattle.pico_cmd.specs.Threads.{IsTotalsOfThreads}
use Rattle.pico_cmd.specs.Stalled.{are_left_stalled}
use Rattle.pico_cmd.proofs.Left.{IsEnded, ended_or_stalled}
use Rattle.pico_cmd.specs.Promise.{Answers, IsTraceOfThreads, OrStalled, RunsThreads, Simulates, Judges, AnswersTold, Allows, CauseOfSim, CauseOfCheck, CauseOfGen, EachCause, IsWritten, Wrote, WroteFront}

-- More bytes than a script has are judged by their front: their fault is that of its size, at the same line.
front_outcome : (bytes left : List ℕ) → 1048576 < length left → bytes ≡ take 1048577 left
    → outcome bytes ≡ outcome left
unfolding outcome
front_outcome bytes left long e =
    let is_long : nat_lt 1048576 (length left) ≡ true = lt-ltb _ _ long
    in let read : nat_lt 1048576 (length bytes) ≡ true =
    lt-ltb _ _ (omega (arith, ap length e, length-take 1048577 left))
    in let front : take 1048576 bytes ≡ take 1048576 left =
    ap (take 1048576) e ∙ take-take 1048576 1048577 left (omega arith)
    in rw (is_long, read, front) refl

-- what was read is judged as what was left
outcome_left : (bytes left : List ℕ) → AreBytesUpTo 1048576 bytes left → outcome bytes ≡ outcome left
outcome_left bytes left (inl same) = ap (outcome) same.0
outcome_left bytes left (inr long) = front_outcome bytes left long.0 long.1

-- the fault of what was read is that of what was left
pub fault_left : (bytes left : List ℕ) (line : ℕ) (fault : ScriptFault) → AreBytesUpTo 1048576 bytes left
    → IsFirstFault bytes line fault → IsFirstFault left line fault
fault_left bytes left line fault r f = sym (outcome_left bytes left r) ∙ f

-- and the other way round
pub fault_read : (bytes left : List ℕ) (line : ℕ) (fault : ScriptFault) → AreBytesUpTo 1048576 bytes left
    → IsFirstFault left line fault → IsFirstFault bytes line fault
fault_read bytes left line fault r f = outcome_left bytes left r ∙ f

-- a script that was left is read
pub script_read : (bytes left : List ℕ) (script : Script) → AreBytesUpTo 1048576 bytes left → Reads left script
    → Reads bytes script
script_read bytes left script r f = outcome_left bytes left r ∙ f

-- what goes with the bytes that were read goes with those that were left
pub Simulates-left : (o : Options) (bytes left : List ℕ) (s : Status) (text : List ℕ)
    → AreBytesUpTo 1048576 bytes left → Simulates o bytes s text → Simulates o left s text
Simulates-left o bytes left status.Done text r a =
    record { script = a.script; reads = sym (outcome_left bytes left r) ∙ a.reads; run = a.run }
Simulates-left o bytes left status.Stalled text r a =
    record { script = a.script; reads = sym (outcome_left bytes left r) ∙ a.reads; run = a.run }
Simulates-left o bytes left status.BadScript text r a =
    record {
      line = a.line;
      fault = a.fault;
      first = fault_left bytes left a.line a.fault r a.first;
      is_text = a.is_text;
    }
Simulates-left o bytes left status.Usage text r a = a
Simulates-left o bytes left status.Memory text r a = a
Simulates-left o bytes left status.ReadFault text r a = a
Simulates-left o bytes left status.WriteFault text r a = a
Simulates-left o bytes left status.NotLegal text r a = a
Simulates-left o bytes left status.BadImage text r a = a

trace_left : (steps : Bool) (bytes left text : List ℕ) (rested : List Rested)
    → AreBytesUpTo 1048576 bytes left → IsTraceOfThreads steps bytes text rested
    → IsTraceOfThreads steps left text rested
trace_left steps bytes left text rested r a =
    record { script = a.script; reads = sym (outcome_left bytes left r) ∙ a.reads; run = a.run }

-- and the same for a run with threads
pub RunsThreads-left : (steps : Bool) (bytes left : List ℕ) (s : Status) (text : List ℕ) (rested : List Rested)
    → AreBytesUpTo 1048576 bytes left → RunsThreads steps bytes s text rested → RunsThreads steps left s text rested
RunsThreads-left steps bytes left status.Done text rested r a =
    (trace_left steps bytes left text rested r a.0, a.1)
RunsThreads-left steps bytes left status.Stalled text rested r a =
    (trace_left steps bytes left text rested r a.0, a.1)
RunsThreads-left steps bytes left status.BadScript text rested r a = (
  record {
    line = a.0.line;
    fault = a.0.fault;
    first = fault_left bytes left a.0.line a.0.fault r a.0.first;
    is_text = a.0.is_text;
  },
  a.1,
)
RunsThreads-left steps bytes left status.Usage text rested r a = a
RunsThreads-left steps bytes left status.Memory text rested r a = a
RunsThreads-left steps bytes left status.ReadFault text rested r a = a
RunsThreads-left steps bytes left status.WriteFault text rested r a = a
RunsThreads-left steps bytes left status.NotLegal text rested r a = a
RunsThreads-left steps bytes left status.BadImage text rested r a = a

-- what `check` reads is the front of what was left
front_left : (bytes left : List ℕ) → AreBytesUpTo 68161537 bytes left → take 68161538 left ≡ bytes
front_left bytes left (inl same) = take_all 68161538 left (omega (arith, same.1)) ∙ sym same.0
front_left bytes left (inr long) = sym long.1

-- where the source is read, a read may have failed
pub read_told : {T : Type 0} (r : Result T Stop) → IfErr r (IsReadFault (Unit {0}))
read_told (Ok x) = tt
read_told (Err Memory) = tt
read_told (Err ReadFault) = tt

-- What is left behind what was read.

-- a source read to its end, within the limit, has left what is behind the limit, which is nothing
pub left_at_end : (limit : ℕ) (old new : Option (List ℕ)) (bytes : List ℕ) → IfSome old (λ left. bytes ≡ left)
    → IfSome new (λ left. left ≡ [])
    → length bytes ≤ limit → is_some new ≡ is_some old → new ≡ left_behind (limit + 1) old
left_at_end limit None None bytes whole end within told = refl
left_at_end limit None (Some n) bytes whole end within told = absurd (let f : ⊥ = cc in f)
left_at_end limit (Some l) None bytes whole end within told = absurd (let f : ⊥ = cc in f)
left_at_end limit (Some l) (Some n) bytes whole end within told =
    ap Some (end ∙ sym (drop_all (limit + 1) l (omega (arith, within, ap length whole))))

-- a source of which one byte more than the limit was read has left what is behind these bytes
pub left_past_limit : (limit : ℕ) (old new : Option (List ℕ)) (read : List ℕ) → old ≡ led_by read new
    → length read ≡ limit + 1 → new ≡ left_behind (limit + 1) old
left_past_limit limit old None read led is = sym (ap (left_behind (limit + 1)) led)
left_past_limit limit old (Some n) read led is =
    sym (ap (left_behind (limit + 1)) led
    ∙ ap Some (ap (λ (k : ℕ). drop k (read ++ n)) (sym is) ∙ drop-append_seam read n))

-- nothing is read
pub untouched_left : (old : Option (List ℕ)) → old ≡ left_behind 0 old
untouched_left None = refl
untouched_left (Some left) = refl

-- an answer that was written whole
pub wrote : (asked : Option Request) (left : Option (List ℕ)) (s : Status) (text : List ℕ) (rested handed : List Rested)
    (old new : Option (List ℕ)) (cause : Type 0) (r wanted : Status)
    → Allows asked left s text rested → IsWritten s text old new cause r → handed ≡ rested → r ≡ wanted
    → (wanted ≡ status.WriteFault → ⊥) → Wrote asked left wanted handed old new
wrote asked left s text rested handed old new cause r wanted a (inl w) h e n =
    record {
      text = text;
      allowed =
          subst (λ (x : List Rested). Allows asked left wanted text x) (sym h)
          (subst (λ (x : Status). Allows asked left x text rested) (sym w.status ∙ e) a);
      taken = w.taken;
    }
wrote asked left s text rested handed old new cause r wanted a (inr c) h e n = absurd (n (sym e ∙ c.status))

-- no text goes with a write that failed
none_cut : (asked : Option Request) (left : Option (List ℕ)) (text : List ℕ) (rested : List Rested)
    → Allows asked left status.WriteFault text rested → ⊥
none_cut None left text rested a = a
none_cut (Some (Run steps)) left text rested a = a.answers
none_cut (Some (Simulate o)) left text rested a = a.answers.0
none_cut (Some Check) left text rested a = a.answers.0.judges
none_cut (Some (Generate o)) left text rested a = a.answers
none_cut (Some Boxes) left text rested a = a.answers
none_cut (Some (Queues steps)) left text rested a = a.answers
none_cut (Some (Freeze count)) left text rested a = a.answers.0
none_cut (Some Thaw) left text rested a = a.answers.0

-- no text goes with want of memory, nor with a read that failed
pub none_memory : (asked : Option Request) (left : Option (List ℕ)) (text : List ℕ) (rested : List Rested)
    → Allows asked left status.Memory text rested → ⊥
none_memory None left text rested a = a
none_memory (Some (Run steps)) left text rested a = a.answers
none_memory (Some (Simulate o)) left text rested a = a.answers.0
none_memory (Some Check) left text rested a = a.answers.0.judges
none_memory (Some (Generate o)) left text rested a = a.answers
none_memory (Some Boxes) left text rested a = a.answers
none_memory (Some (Queues steps)) left text rested a = a.answers
none_memory (Some (Freeze count)) left text rested a = a.answers.0
none_memory (Some Thaw) left text rested a = a.answers.0

-- nor with a read that failed
pub none_read_fault : (asked : Option Request) (left : Option (List ℕ)) (text : List ℕ) (rested : List Rested)
    → Allows asked left status.ReadFault text rested → ⊥
none_read_fault None left text rested a = a
none_read_fault (Some (Run steps)) left text rested a = a.answers
none_read_fault (Some (Simulate o)) left text rested a = a.answers.0
none_read_fault (Some Check) left text rested a = a.answers.0.judges
none_read_fault (Some (Generate o)) left text rested a = a.answers
none_read_fault (Some Boxes) left text rested a = a.answers
none_read_fault (Some (Queues steps)) left text rested a = a.answers
none_read_fault (Some (Freeze count)) left text rested a = a.answers.0
none_read_fault (Some Thaw) left text rested a = a.answers.0

-- a status with which no text goes isn't told of an answer
pub not_told : (asked : Option Request) (left : Option (List ℕ)) (s : Status) (text : List ℕ) (rested : List Rested)
    (old new : Option (List ℕ)) (cause : Type 0) (r silent : Status) → Allows asked left s text rested
    → IsWritten s text old new cause r → r ≡ silent → (Allows asked left silent text rested → ⊥)
    → (silent ≡ status.WriteFault → ⊥) → ⊥
not_told asked left s text rested old new cause r silent a (inl w) e none n =
    none (subst (λ (x : Status). Allows asked left x text rested) (sym w.status ∙ e) a)
not_told asked left s text rested old new cause r silent a (inr c) e none n = n (sym e ∙ c.status)

-- and one of which a front was taken
pub wrote_front : (asked : Option Request) (left : Option (List ℕ)) (s : Status) (text : List ℕ)
    (rested handed : List Rested) (old new : Option (List ℕ)) (cause : Type 0) (r : Status)
    → Allows asked left s text rested → IsWritten s text old new cause r → handed ≡ rested → r ≡ status.WriteFault
    → WroteFront asked left handed old new
wrote_front asked left s text rested handed old new cause r a (inl w) h e =
    absurd (none_cut asked left text rested
    (subst (λ (x : Status). Allows asked left x text rested) (sym w.status ∙ e) a))
wrote_front asked left s text rested handed old new cause r a (inr c) h e =
    record {
      replaced = s;
      text = text;
      count = c.count;
      allowed = subst (λ (x : List Rested). Allows asked left s text x) (sym h) a;
      within = c.within;
      taken = c.taken;
    }

-- The same where the source may tell nothing.

-- what goes with the bytes read for `run` goes with the source, whether it tells its bytes or not
pub told_run : (steps : Bool) (told : Option (List ℕ)) (bytes : List ℕ) (s : Status) (text : List ℕ)
    (rested : List Rested) → IfSome told (AreBytesUpTo 1048576 bytes) → RunsThreads steps bytes s text rested
    → AnswersTold (Run steps) told s text rested
told_run steps None bytes s text rested r a = record { bytes = bytes; told = tt; answers = a }
told_run steps (Some left) bytes s text rested r a =
    record { bytes = left; told = refl; answers = RunsThreads-left steps bytes left s text rested r a }

-- what goes with the bytes read for `sim` goes with the source, whether it tells its bytes or not
pub told_answer : (o : Options) (told : Option (List ℕ)) (bytes : List ℕ) (s : Status) (text : List ℕ)
    (rested : List Rested) → IfSome told (AreBytesUpTo 1048576 bytes) → Simulates o bytes s text → rested ≡ []
    → AnswersTold (Simulate o) told s text rested
told_answer o None bytes s text rested r a none = record { bytes = bytes; told = tt; answers = (a, none) }
told_answer o (Some left) bytes s text rested r a none =
    record { bytes = left; told = refl; answers = (Simulates-left o bytes left s text r a, none) }

-- what goes with the bytes read for `check` goes with the source, whether it tells its bytes or not
pub told_verdict : (told : Option (List ℕ)) (bytes read : List ℕ) (s : Status) (text : List ℕ) (rested : List Rested)
    → IfSome told (AreBytesUpTo 68161537 bytes) → length bytes ≤ 68161538
    → read ≡ bytes → Judges read s text → rested ≡ [] → AnswersTold Check told s text rested
told_verdict None bytes read s text rested r few e a none =
    record {
      bytes = bytes;
      told = tt;
      answers = (
        subst (λ (b : List ℕ). Judges b s text) (e ∙ sym (take_all 68161538 bytes few)) a,
        none,
      );
    }
told_verdict (Some left) bytes read s text rested r few e a none =
    record {
      bytes = left;
      told = refl;
      answers = (
        subst (λ (b : List ℕ). Judges b s text) (e ∙ sym (front_left bytes left r)) a,
        none,
      );
    }

-- The causes of an answer, by the bytes that were left.

sim_cause : (bytes left : List ℕ) (got : Status) → AreBytesUpTo 1048576 bytes left
    → ((script : Script) → Reads bytes script → IsEnded got)
    → ((line : ℕ) (fault : ScriptFault) → IsFirstFault bytes line fault → got ≡ status.BadScript)
    → (s : Status) → CauseOfSim left s → OrStalled (λ s. got ≡ s) s
sim_cause bytes left got r done bad status.Done c =
    ended_or_stalled got (done c.0 (script_read bytes left c.0 r c.1))
sim_cause bytes left got r done bad status.BadScript c = inl (bad c.0 c.1 (fault_read bytes left c.0 c.1 r c.2))
sim_cause bytes left got r done bad status.Stalled c = absurd c
sim_cause bytes left got r done bad status.Usage c = absurd c
sim_cause bytes left got r done bad status.Memory c = absurd c
sim_cause bytes left got r done bad status.ReadFault c = absurd c
sim_cause bytes left got r done bad status.WriteFault c = absurd c
sim_cause bytes left got r done bad status.NotLegal c = absurd c
sim_cause bytes left got r done bad status.BadImage c = absurd c

-- a status that follows from what `sim` read follows from what the source had left
pub sim_causes : (o : Options) (told : Option (List ℕ)) (bytes : List ℕ) (got : Status)
    → IfSome told (AreBytesUpTo 1048576 bytes)
    → ((script : Script) → Reads bytes script → IsEnded got)
    → ((line : ℕ) (fault : ScriptFault) → IsFirstFault bytes line fault → got ≡ status.BadScript)
    → EachCause (Some (Simulate o)) told (λ s. got ≡ s)
sim_causes o None bytes got r done bad = tt
sim_causes o (Some left) bytes got r done bad = λ s c. sim_cause bytes left got r done bad s c

-- a status that follows from what `run` read follows from what the source had left
pub run_causes : (steps : Bool) (told : Option (List ℕ)) (bytes : List ℕ) (got : Status)
    → IfSome told (AreBytesUpTo 1048576 bytes)
    → ((script : Script) → Reads bytes script → IsEnded got)
    → ((line : ℕ) (fault : ScriptFault) → IsFirstFault bytes line fault → got ≡ status.BadScript)
    → EachCause (Some (Run steps)) told (λ s. got ≡ s)
run_causes steps None bytes got r done bad = tt
run_causes steps (Some left) bytes got r done bad = λ s c. sim_cause bytes left got r done bad s c

-- a status that follows from what `check` read follows from what the source had left
pub check_causes : (told : Option (List ℕ)) (bytes read : List ℕ) (got : Status)
    → IfSome told (AreBytesUpTo 68161537 bytes) → read ≡ bytes
    → ((s : Status) → CauseOfCheck read s → got ≡ s) → EachCause (Some Check) told (λ s. got ≡ s)
check_causes None bytes read got r e causes = tt
check_causes (Some left) bytes read got r e causes =
    λ s c. causes s (subst (λ (b : List ℕ). CauseOfCheck b s) (front_left bytes left r ∙ sym e) c)

gen_cause : (got : Status) → got ≡ status.Done → (s : Status) → CauseOfGen s → got ≡ s
gen_cause got e status.Done c = e
gen_cause got e status.BadScript c = absurd c
gen_cause got e status.Usage c = absurd c
gen_cause got e status.Memory c = absurd c
gen_cause got e status.ReadFault c = absurd c
gen_cause got e status.WriteFault c = absurd c
gen_cause got e status.Stalled c = absurd c
gen_cause got e status.NotLegal c = absurd c
gen_cause got e status.BadImage c = absurd c

-- for a generated script each cause's status is the one of success
pub gen_causes : (o : Options) (told : Option (List ℕ)) (got : Status) → got ≡ status.Done
    → EachCause (Some (Generate o)) told (λ s. got ≡ s)
gen_causes o told got e = λ s c. gen_cause got e s c

-- the totals of a generated script are told, whatever the source tells
pub told_totals : (o : Options) (told : Option (List ℕ)) (s : Status) (text : List ℕ) (rested : List Rested)
    → IsTotalsOfThreads (generated o.seed) o.steps text rested → are_left_stalled rested ≡ false → s ≡ status.Done
    → AnswersTold (Generate o) told s text rested
told_totals o None s text rested h calm e =
    record {
      bytes = [];
      told = tt;
      answers = subst (λ (x : Status). Answers (Generate o) [] x text rested) (sym e) (h, calm);
    }
told_totals o (Some left) s text rested h calm e =
    record {
      bytes = left;
      told = refl;
      answers = subst (λ (x : Status). Answers (Generate o) left x text rested) (sym e) (h, calm);
    }

-- what is left of the source, where a status is told

-- what is left of the source is as said, whatever else is supposed
pub rest_told : (asked : Option Request) (old new : Option (List ℕ)) (A B : Type 0)
    → IfSome asked (λ request. new ≡ left_behind (most_read request) old)
    → IfSome asked (λ request. A → B → new ≡ left_behind (most_read request) old)
rest_told None old new A B h = tt
rest_told (Some request) old new A B h = λ a b. h

-- of what is left of the source nothing is to be shown where memory ran out
pub rest_memory : (asked : Option Request) (old new : Option (List ℕ)) (A : Type 0)
    → IfSome asked (λ request. A → (status.Memory ≡ status.Memory → ⊥) → new ≡ left_behind (most_read request) old)
rest_memory None old new A = tt
rest_memory (Some request) old new A = λ a b. absurd (b refl)

-- of what is left of the source nothing is to be shown where a read failed
pub rest_read_fault : (asked : Option Request) (old new : Option (List ℕ)) (B : Type 0)
    → IfSome asked
    (λ request. (status.ReadFault ≡ status.ReadFault → ⊥) → B → new ≡ left_behind (most_read request) old)
rest_read_fault None old new B = tt
rest_read_fault (Some request) old new B = λ a b. absurd (a refl)
