-- The calls of a sound script: at once none waits, and a message's type has four bytes.
use Rattle.std.proofs.Common.{◌≡◌, ℕ, ◌≤◌, ℤ, pos, negsuc, true, false, Option, Some, None, refl, inl, inr, arith, Bool, List, [], ap, length, map, not, subst, sym, ◌&&◌, ◌<◌, ◌^◌, ◌||◌, ◌∙◌, ◌∷◌}
use Rattle.std.specs.Prelude.{int_le, FitsSigned, if◌then◌else◌, nat_le}
use Rattle.std.specs.Int.{w32}
use Rattle.std.proofs.lemmas.Bool.{and_parts, false≢true, leb-true, or_parts}
use Rattle.std.proofs.lemmas.Int.{fits_signed_from_abs}
use Rattle.std.specs.List.{AllByRecursion, list_all, list_any}
use Rattle.pico_base.specs.declared.call.Call.{Call}
use Rattle.pico_base.specs.declared.call.Call.TheVariants as calls
use Rattle.pico_base.specs.declared.script.Line.{Line}
use Rattle.pico_base.specs.declared.call.SemStep.{SemStep}
use Rattle.kernel_model.specs.Fitting.{is_killed, IsDue, Place}
use Rattle.kernel_model.specs.Script.{Vars, call_from, is_in_range, is_type, value_of, with_target, is_exit, is_line, is_step_in_range, is_tried_once, max_calls, sets_rightly, with_exit}
use Rattle.kernel_model.specs.Waiting.{is_waiting, may_wait}
use Rattle.kernel_model.specs.Texts.{has_spelling}
use Rattle.kernel_model.specs.Numbers.{is_between, is_u16, is_u32}
use Rattle.waiting_model.specs.Linear.{at_once, counts_waiters, step_at_once}
use Rattle.waiting_model.specs.Calls.{is_withdrawal}
use Rattle.entry_laws.proofs.Places.{DueLine, due-line}
use Rattle.deed_laws.specs.Small.{IsSmallCall}
use Rattle.frame_bytes.specs.Ranges.{HasStepRanges}

-- ---- calls at once

-- an operation with IPC_NOWAIT never waits
step-waits-not : (t : Bool) → (t && not true) ≡ false
step-waits-not true = refl
step-waits-not false = refl

steps-wait-not : (steps : List SemStep) → list_any may_wait (map step_at_once steps) ≡ false
steps-wait-not [] = refl
steps-wait-not (step ∷ steps) =
    ap (λ t. t || list_any may_wait (map step_at_once steps)) (step-waits-not (int_le step.add (pos 0)))
    ∙ steps-wait-not steps

-- a call that is made at once never waits; a withdrawal isn't made so
pub at-once-waits-not : (call : Call) → is_withdrawal call ≡ false → is_waiting (at_once call) ≡ false
at-once-waits-not (calls.Withdraw name) h = absurd (false≢true (sym h))
at-once-waits-not (calls.SemOp id steps) h = steps-wait-not steps
at-once-waits-not call h = refl

-- nor does a count of those who wait
pub count-waits-not : (call : Call) → counts_waiters call ≡ true → is_waiting call ≡ false
count-waits-not (calls.SemGetNcnt id num) h = refl
count-waits-not (calls.SemGetZcnt id num) h = refl
count-waits-not call h = absurd (false≢true h)

-- ---- a message's type has four bytes

type-fits : (class : ℤ) → is_type class ≡ true → FitsSigned w32 class
type-fits (pos n) h =
    let low : n ≤ 2147483647 =
    leb-true n 2147483647 (and_parts (int_le (negsuc 2147483646) (pos n)) (int_le (pos n) (pos 2147483647)) h).1
    in fits_signed_from_abs w32 (pos n) (omega (arith, low))
type-fits (negsuc m) h =
    let low : m ≤ 2147483646 =
    leb-true m 2147483646
    (and_parts (int_le (negsuc 2147483646) (negsuc m)) (int_le (negsuc m) (pos 2147483647)) h).0
    in fits_signed_from_abs w32 (negsuc m) (omega (arith, low))

-- ---- the ranges of a line's call

-- what they say of a call that may wait, whatever it is carried out on
abbrev pub IsRanged : Call → Type 0
IsRanged (calls.MsgSnd id class text nowait) = FitsSigned w32 class
IsRanged (calls.MsgRcv id class size noerror nowait) = FitsSigned w32 class × (size < 2 ^ 32)
IsRanged (calls.SemOp id steps) = (1 ≤ length steps) × AllByRecursion HasStepRanges steps
IsRanged (calls.Withdraw name) = ⊥
IsRanged call = Unit {0}

add-fits : (add : ℤ) → int_le (negsuc 65534) add ≡ true → int_le add (pos 65535) ≡ true → FitsSigned w32 add
add-fits (pos n) low high =
    let most : n ≤ 65535 = leb-true n 65535 high in fits_signed_from_abs w32 (pos n) (omega (arith, most))
add-fits (negsuc m) low high =
    let most : m ≤ 65534 = leb-true m 65534 low in fits_signed_from_abs w32 (negsuc m) (omega (arith, most))

step-ranges : (step : SemStep) → is_step_in_range step ≡ true → HasStepRanges step
step-ranges step h =
    let num = and_parts (is_u16 step.num) (int_le (negsuc 65534) step.add && int_le step.add (pos 65535)) h
    in let add = and_parts (int_le (negsuc 65534) step.add) (int_le step.add (pos 65535)) num.1
    in record {
      num = (let low = leb-true step.num 65535 num.0 in omega (arith, low));
      add = add-fits step.add add.0 add.1;
    }

steps-ranges : (steps : List SemStep) → list_all is_step_in_range steps ≡ true → AllByRecursion HasStepRanges steps
steps-ranges [] h = tt
steps-ranges (step ∷ steps) h =
    let parts = and_parts (is_step_in_range step) (list_all is_step_in_range steps) h
    in (step-ranges step parts.0, steps-ranges steps parts.1)

in-range-is-ranged : (call : Call) → is_in_range call ≡ true → IsRanged call
in-range-is-ranged (calls.MsgSnd id class text nowait) h =
    type-fits class (and_parts (is_type class) (has_spelling text)
    (and_parts (is_u32 id) (is_type class && has_spelling text) h).1).0
in-range-is-ranged (calls.MsgRcv id class size noerror nowait) h =
    let parts =
    and_parts (is_type class) (is_u16 size) (and_parts (is_u32 id) (is_type class && is_u16 size) h).1
    in let low : size ≤ 65535 = leb-true size 65535 parts.1
    in (type-fits class parts.0, omega (arith, low))
in-range-is-ranged (calls.SemOp id steps) h =
    let few = is_between 1 1024 (length steps)
    in let parts =
    and_parts few (list_all is_step_in_range steps)
    (and_parts (is_u32 id) (few && list_all is_step_in_range steps) h).1
    in let count = and_parts (nat_le 1 (length steps)) (nat_le (length steps) 1024) parts.0
    in (leb-true 1 (length steps) count.0, steps-ranges steps parts.1)
in-range-is-ranged (calls.Withdraw name) h = absurd (false≢true h)
in-range-is-ranged call h = tt

ranged-target : (call : Call) (n : ℕ) → IsRanged call → IsRanged (with_target call n)
ranged-target (calls.MsgSnd id class text nowait) n h = h
ranged-target (calls.MsgRcv id class size noerror nowait) n h = h
ranged-target (calls.SemOp id steps) n h = h
ranged-target (calls.Withdraw name) n h = h
ranged-target call n h = tt

-- whatever the variables are
ranged-from : (call : Call) (vars : Vars) (o : Option ℕ) → IsRanged call → IsRanged (call_from call vars o)
ranged-from call vars None h = h
ranged-from call vars (Some v) h = ranged-target call (value_of vars v) h

-- ---- the call that is due

-- a line out of range
abbrev pub is_bad : Line → Bool
is_bad line = not (is_line line)

-- with its implied exit a block has none
pub none-bad : (lines : List Line) → list_all is_line lines ≡ true → list_any is_bad (with_exit lines) ≡ false
none-bad [] h = refl
none-bad (line ∷ lines) h =
    let ranged = and_parts (is_line line) (list_all is_line lines) h
    in by (is_exit line.call) (ap not ranged.0) (none-bad lines ranged.1)
  where
    by : (b : Bool) → is_bad line ≡ false → list_any is_bad (with_exit lines) ≡ false
        → list_any is_bad (if b then line ∷ [] else line ∷ with_exit lines) ≡ false
    by true fine rest = ap (λ t. t || false) fine
    by false fine rest = ap (λ t. t || list_any is_bad (with_exit lines)) fine ∙ rest

not-bad : (a : Bool) → not a ≡ false → a ≡ true
not-bad true h = refl
not-bad false h = absurd (false≢true (sym h))

line-in-range : (line : Line) → is_line line ≡ true → is_in_range line.call ≡ true
line-in-range line h =
    let tries = and_parts (is_between 1 max_calls line.tries) _ h
    in let once = and_parts (is_tried_once line) _ tries.1
    in let sets = and_parts (sets_rightly line) _ once.1
    in (and_parts (is_in_range line.call) _ sets.1).0

ranged-killed : (call : Call) → is_killed call ≡ true → IsRanged call
ranged-killed (calls.Killed sig) h = tt
ranged-killed call h = absurd (false≢true h)

-- A call that is due where no line that is left is out of range has the ranges of a line.
pub due-is-ranged : (place : Place) (call : Call) → list_any is_bad place.left ≡ false → IsDue place call
    → IsRanged call
due-is-ranged place call fine (inl is_due) =
    let d : DueLine place call = due-line place call is_due
    in let first =
    or_parts (is_bad d.line) (list_any is_bad d.rest) (sym (ap (list_any is_bad) d.left) ∙ fine)
    in let good = not-bad (is_line d.line) first.0
    in subst IsRanged d.call_is
    (ranged-from d.line.call place.vars d.line.from (in-range-is-ranged d.line.call (line-in-range d.line good)))
due-is-ranged place call fine (inr ends) = ranged-killed call ends.0

-- It is no withdrawal,
pub ranged-withdraws-not : (call : Call) → IsRanged call → is_withdrawal call ≡ false
ranged-withdraws-not (calls.Withdraw name) h = absurd h
ranged-withdraws-not call h = refl

-- and it is small,
pub ranged-is-small : (call : Call) → IsRanged call → IsSmallCall call
ranged-is-small (calls.MsgSnd id class text nowait) h = h
ranged-is-small call h = tt

-- also where it is made at once.
pub small-at-once : (call : Call) → IsSmallCall call → IsSmallCall (at_once call)
small-at-once (calls.MsgSnd id class text nowait) h = h
small-at-once call h = tt
