-- What `freeze` reads of the source, and what is promised of its answer.
use Rattle.std.proofs.Common.{◌≡◌, ℕ, List, [], Option, Some, None, Result, Ok, Err, refl, sym, subst}
use Rattle.std.specs.Prelude.{IfOk, IfSome}
use Rattle.pico_base.specs.declared.script.Script.{Script}
use Rattle.script_reader.specs.declared.fault.ScriptFault.{ScriptFault}
use Rattle.script_reader.specs.Fault.{Reads, IsFirstFault}
use Rattle.pico_words.specs.declared.words.Request.TheVariants.{Freeze}
use Rattle.pico_run.specs.declared.rested.Rested.{Rested}
use Rattle.pico_cmd.specs.declared.answer.Answer.{Answer}
use Rattle.pico_cmd.specs.declared.status.Status.{Status}
use Rattle.pico_cmd.specs.declared.status.Status.TheVariants as status
use Rattle.pico_cmd.specs.Frozen.{IsFrozen}
use Rattle.pico_cmd.specs.Promise.{AnswersTold, CauseOfSim, EachCause, Freezes}
use Rattle.pico_cmd.specs.Stop.{AreBytesUpTo}
use Rattle.pico_cmd.proofs.Promises.{fault_left, fault_read, script_read}
use Rattle.pico_cmd.proofs.Sizes.{whole_script}

-- a script that was frozen is the answer to its bytes
pub freezes_so : {E : Type 0} (count : ℕ) (bytes : List ℕ) (r : Result Answer E)
    → IfOk r (λ (a : Answer). a.status ≡ status.Done) → IfOk r (λ (a : Answer). IsFrozen count bytes a.text)
    → IfOk r (λ (a : Answer). Freezes count bytes a.status a.text)
freezes_so count bytes (Err e) done frozen = tt
freezes_so count bytes (Ok a) done frozen =
    subst (λ (s : Status). Freezes count bytes s a.text) (sym done) frozen

-- ---- the bytes that were left

-- what goes with the bytes that were read goes with those that were left
Freezes-left : (count : ℕ) (bytes left : List ℕ) (s : Status) (text : List ℕ) → AreBytesUpTo 1048576 bytes left
    → Freezes count bytes s text → Freezes count left s text
Freezes-left count bytes left status.Done text r a =
    subst (λ (b : List ℕ). IsFrozen count b text) (whole_script bytes left a.script r a.reads) a
Freezes-left count bytes left status.BadScript text r a =
    record {
      line = a.line;
      fault = a.fault;
      first = fault_left bytes left a.line a.fault r a.first;
      is_text = a.is_text;
    }
Freezes-left count bytes left status.Usage text r a = a
Freezes-left count bytes left status.Memory text r a = a
Freezes-left count bytes left status.ReadFault text r a = a
Freezes-left count bytes left status.WriteFault text r a = a
Freezes-left count bytes left status.Stalled text r a = a
Freezes-left count bytes left status.NotLegal text r a = a
Freezes-left count bytes left status.BadImage text r a = a

-- and with the source, whether it tells its bytes or not
pub told_freeze : (count : ℕ) (told : Option (List ℕ)) (bytes read : List ℕ) (s : Status) (text : List ℕ)
    (rested : List Rested) → IfSome told (AreBytesUpTo 1048576 bytes) → read ≡ bytes → Freezes count read s text
    → rested ≡ [] → AnswersTold (Freeze count) told s text rested
told_freeze count None bytes read s text rested r e a none = record { bytes = read; told = tt; answers = (a, none) }
told_freeze count (Some left) bytes read s text rested r e a none =
    record {
      bytes = left;
      told = refl;
      answers = (
        Freezes-left count bytes left s text r (subst (λ (b : List ℕ). Freezes count b s text) e a),
        none,
      );
    }

-- ---- causes

freeze_cause : (bytes left : List ℕ) (got : Status) → AreBytesUpTo 1048576 bytes left
    → ((script : Script) → Reads bytes script → got ≡ status.Done)
    → ((line : ℕ) (fault : ScriptFault) → IsFirstFault bytes line fault → got ≡ status.BadScript)
    → (s : Status) → CauseOfSim left s → got ≡ s
freeze_cause bytes left got r done bad status.Done c = done c.0 (script_read bytes left c.0 r c.1)
freeze_cause bytes left got r done bad status.BadScript c = bad c.0 c.1 (fault_read bytes left c.0 c.1 r c.2)
freeze_cause bytes left got r done bad status.Stalled c = absurd c
freeze_cause bytes left got r done bad status.Usage c = absurd c
freeze_cause bytes left got r done bad status.Memory c = absurd c
freeze_cause bytes left got r done bad status.ReadFault c = absurd c
freeze_cause bytes left got r done bad status.WriteFault c = absurd c
freeze_cause bytes left got r done bad status.NotLegal c = absurd c
freeze_cause bytes left got r done bad status.BadImage c = absurd c

-- a status that follows from what was read follows from what the source had left
pub freeze_causes : (count : ℕ) (told : Option (List ℕ)) (bytes read : List ℕ) (got : Status)
    → IfSome told (AreBytesUpTo 1048576 bytes) → read ≡ bytes
    → ((script : Script) → Reads read script → got ≡ status.Done)
    → ((line : ℕ) (fault : ScriptFault) → IsFirstFault read line fault → got ≡ status.BadScript)
    → EachCause (Some (Freeze count)) told (λ s. got ≡ s)
freeze_causes count None bytes read got r e done bad = tt
freeze_causes count (Some left) bytes read got r e done bad = λ s c.
    freeze_cause read left got (subst (λ (b : List ℕ). AreBytesUpTo 1048576 b left) (sym e) r) done bad s c
