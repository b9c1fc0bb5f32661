-- What `boxes` reads of the source, and what is promised of its answer.
use Rattle.std.proofs.Common.{refl, ◌≡◌, ◌⊎◌, ℕ, ◌<◌, Bool, false, List, length, take, Option, Some, None, ap, sym, subst, ◌∙◌, arith, inl, inr, length-take}
use Rattle.std.specs.Prelude.{IfOk, IfSome, nat_lt, true, Result, Ok, Err}
use Rattle.std.proofs.lemmas.Bool.{lt-ltb}
use Rattle.std.proofs.lemmas.List.{take-take}
use Rattle.sandbox_set.specs.declared.fault.BoxFault.{BoxFault}
use Rattle.sandbox_set.specs.declared.read.Sandbox.{Sandbox}
use Rattle.sandbox_set.specs.Boxes.{Reads, IsFirstFault, outcome}
use Rattle.pico_words.specs.declared.words.Request.TheVariants.{Boxes}
use Rattle.pico_run.specs.declared.rested.Rested.{Rested}
use Rattle.pico_cmd.specs.declared.answer.Answer.{Answer}
use Rattle.pico_cmd.specs.declared.status.Status.{Status}
use Rattle.pico_cmd.specs.declared.status.Status.TheVariants as status
use Rattle.pico_cmd.specs.Boxed.{AnswersBoxes}
use Rattle.pico_cmd.specs.Promise.{AnswersTold, AreTracesOfBoxes, CauseOfBoxes, EachCause, OrStalled, RunsBoxes}
use Rattle.pico_cmd.specs.Stalled.{are_left_stalled, status_left}
use Rattle.pico_cmd.proofs.Left.{IsEnded, ended_or_stalled, ended_so}
use Rattle.pico_cmd.specs.Stop.{AreBytesUpTo}

-- ---- the bytes that were left

-- An input of more bytes than are read is judged by its front: its fault is that of its size, at the same line.
front_outcome : (bytes left : List ℕ) → 1048576 < length left → bytes ≡ take 1048577 left
    → outcome bytes ≡ outcome left
unfolding outcome
front_outcome bytes left long e =
    let is_long : nat_lt 1048576 (length left) ≡ true = lt-ltb _ _ long
    in let read : nat_lt 1048576 (length bytes) ≡ true =
    lt-ltb _ _ (omega (arith, ap length e, length-take 1048577 left))
    in let front : take 1048576 bytes ≡ take 1048576 left =
    ap (take 1048576) e ∙ take-take 1048576 1048577 left (omega arith)
    in rw (is_long, read, front) refl

-- what was read is judged as what was left
outcome_left : (bytes left : List ℕ) → AreBytesUpTo 1048576 bytes left → outcome bytes ≡ outcome left
outcome_left bytes left (inl same) = ap outcome same.0
outcome_left bytes left (inr long) = front_outcome bytes left long.0 long.1

traces_left : (bytes left : List ℕ) (text : List ℕ) (rested : List Rested) → AreBytesUpTo 1048576 bytes left
    → AreTracesOfBoxes bytes text rested → AreTracesOfBoxes left text rested
traces_left bytes left text rested r a =
    record { sandboxes = a.sandboxes; reads = sym (outcome_left bytes left r) ∙ a.reads; run = a.run }

-- what goes with the bytes that were read goes with those that were left
RunsBoxes-left : (bytes left : List ℕ) (s : Status) (text : List ℕ) (rested : List Rested)
    → AreBytesUpTo 1048576 bytes left → RunsBoxes bytes s text rested → RunsBoxes left s text rested
RunsBoxes-left bytes left status.Done text rested r a = (traces_left bytes left text rested r a.0, a.1)
RunsBoxes-left bytes left status.Stalled text rested r a = (traces_left bytes left text rested r a.0, a.1)
RunsBoxes-left bytes left status.BadScript text rested r a = (
  record {
    line = a.0.line;
    fault = a.0.fault;
    first = sym (outcome_left bytes left r) ∙ a.0.first;
    is_text = a.0.is_text;
  },
  a.1,
)
RunsBoxes-left bytes left status.Usage text rested r a = a
RunsBoxes-left bytes left status.Memory text rested r a = a
RunsBoxes-left bytes left status.ReadFault text rested r a = a
RunsBoxes-left bytes left status.WriteFault text rested r a = a
RunsBoxes-left bytes left status.NotLegal text rested r a = a
RunsBoxes-left bytes left status.BadImage text rested r a = a

-- and with the source, whether it tells its bytes or not
pub told_boxes : (told : Option (List ℕ)) (bytes read : List ℕ) (s : Status) (text : List ℕ) (rested : List Rested)
    → IfSome told (AreBytesUpTo 1048576 bytes) → read ≡ bytes → RunsBoxes read s text rested
    → AnswersTold Boxes told s text rested
told_boxes None bytes read s text rested r e a = record { bytes = read; told = tt; answers = a }
told_boxes (Some left) bytes read s text rested r e a =
    record {
      bytes = left;
      told = refl;
      answers =
          RunsBoxes-left bytes left s text rested r
          (subst (λ (b : List ℕ). RunsBoxes b s text rested) e a);
    }

-- ---- causes

boxes_cause : (bytes left : List ℕ) (got : Status) → AreBytesUpTo 1048576 bytes left
    → ((boxes : List Sandbox) → Reads bytes boxes → IsEnded got)
    → ((line : ℕ) (fault : BoxFault) → IsFirstFault bytes line fault → got ≡ status.BadScript)
    → (s : Status) → CauseOfBoxes left s → OrStalled (λ s. got ≡ s) s
boxes_cause bytes left got r done bad status.Done c = ended_or_stalled got (done c.0 (outcome_left bytes left r ∙ c.1))
boxes_cause bytes left got r done bad status.BadScript c = inl (bad c.0 c.1 (outcome_left bytes left r ∙ c.2))
boxes_cause bytes left got r done bad status.Stalled c = absurd c
boxes_cause bytes left got r done bad status.Usage c = absurd c
boxes_cause bytes left got r done bad status.Memory c = absurd c
boxes_cause bytes left got r done bad status.ReadFault c = absurd c
boxes_cause bytes left got r done bad status.WriteFault c = absurd c
boxes_cause bytes left got r done bad status.NotLegal c = absurd c
boxes_cause bytes left got r done bad status.BadImage c = absurd c

-- a status that follows from what was read follows from what the source had left
pub boxes_causes : (told : Option (List ℕ)) (bytes read : List ℕ) (got : Status)
    → IfSome told (AreBytesUpTo 1048576 bytes) → read ≡ bytes
    → ((boxes : List Sandbox) → Reads read boxes → IsEnded got)
    → ((line : ℕ) (fault : BoxFault) → IsFirstFault read line fault → got ≡ status.BadScript)
    → EachCause (Some Boxes) told (λ s. got ≡ s)
boxes_causes None bytes read got r e done bad = tt
boxes_causes (Some left) bytes read got r e done bad = λ s c.
    boxes_cause read left got (subst (λ (b : List ℕ). AreBytesUpTo 1048576 b left) (sym e) r) done bad s c

-- ---- the answer to the bytes

boxes_left : (bytes text : List ℕ) (rested : List Rested) (stalled : Bool) → AreTracesOfBoxes bytes text rested
    → are_left_stalled rested ≡ stalled → RunsBoxes bytes (status_left stalled) text rested
boxes_left bytes text rested false traces is = (traces, is)
boxes_left bytes text rested true traces is = (traces, is)

-- that of runs
pub runs_boxes : {E : Type 0} (bytes : List ℕ) (boxes : List Sandbox) (r : Result Answer E) → Reads bytes boxes
    → IfOk r (AnswersBoxes boxes) → IfOk r (λ (a : Answer). RunsBoxes bytes a.status a.text a.rested)
runs_boxes bytes boxes (Err e) reads h = tt
runs_boxes bytes boxes (Ok a) reads h =
    let traces : AreTracesOfBoxes bytes a.text a.rested = record { sandboxes = boxes; reads = reads; run = h.run } in
    subst (λ (s : Status). RunsBoxes bytes s a.text a.rested) (sym h.status_is)
    (boxes_left bytes a.text a.rested (are_left_stalled a.rested) traces refl)

-- which is Done or Stalled
pub is_done : {E : Type 0} (boxes : List Sandbox) (r : Result Answer E) → IfOk r (AnswersBoxes boxes)
    → IfOk r (λ (a : Answer). (a.status ≡ status.Done) ⊎ (a.status ≡ status.Stalled))
is_done boxes (Err e) h = tt
is_done boxes (Ok a) h = ended_so a.status (are_left_stalled a.rested) h.status_is
