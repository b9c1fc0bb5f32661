-- A semop of one operation.
use Rattle.std.proofs.Common.{◌≡◌, ◌∙◌, ℕ, ◌<◌, Bool, true, false, ◌&&◌, nat_le, List, [], ◌∷◌, length, set, Option, Some, None, Result, Ok, Err, refl, sym, ap, subst, arith}
use Rattle.std.specs.Prelude.{if◌then◌else◌, option_map, slice_get, get_or}
use Rattle.std.specs.List.{list_any}
use Rattle.std.proofs.lemmas.Option.{slice_get_read}
use Rattle.pico_base.specs.declared.call.SemStep.{SemStep}
use Rattle.pico_base.specs.declared.reply.Errno.{Errno}
use Rattle.pico_base.specs.declared.reply.Errno.TheVariants.{Eagain, Erange}
use Rattle.pico_base.specs.declared.reply.Reply.TheVariants.{Fail, Num}
use Rattle.kernel_model.specs.SemaphoreSet.{Semaphore, SemaphoreSet, set_of, Moved, To, Waits, TooHigh, Tried, Done, OutOfRange, values_of, move_by, move_at, go_on, try_ops, op}
use Rattle.kernel_model.specs.Waiting.{may_wait}
use Rattle.waiting_model.specs.Waiters.{attempt, changed}
use Rattle.waiting_model.specs.SemaphoreSet.{are_tried, stop_in, stop_of, waits_for, try_op}
use Rattle.sysv_sem.specs.OneByOne.{told_of}
use Rattle.sysv_sem.specs.Trial.{answer_of, TriesTo}
use Rattle.sysv_sem.proofs.OneByOne.{carried_last, made, op_carried, as_set, value_at}
use Rattle.sysv_sem.proofs.Ops.{op-waits, op-refused}

goes-on : {X : Type 0} (b : Bool) (x : X) → (if b && false then None else Some x) ≡ Some x
goes-on true x = refl
goes-on false x = refl

no-more : (size num : ℕ) → num < size → nat_le size num ≡ false
no-more size num lt = grind arith

module _ (row : List Semaphore) (pid : ℕ) (step : SemStep) (s : Semaphore) (inside : step.num < length row)
    (is : s ≡ get_or row step.num s) where
  none-outside : list_any (λ (one : SemStep). nat_le (length row) one.num) (step ∷ []) ≡ false
  none-outside = rw (no-more (length row) step.num inside) refl

  abbrev trial : Moved → Tried
  trial m = go_on 0 (values_of row) step.num m (λ next. Done next)

  tried : try_ops (values_of row) (step ∷ []) ≡ trial (move_by step.add s.value)
  tried =
      let there : slice_get row step.num ≡ Some s = slice_get_read row (length row) step.num s refl inside is
      in ap (λ (o : Option ℕ). trial (move_at step.add o))
      (value_at row step.num ∙ ap (option_map (λ (one : Semaphore). one.value)) there)

  goes-by : (m : Moved) (value : ℕ) → move_by step.add s.value ≡ m → Ok value ≡ answer_of m
      → try_op (set_of row) pid (step ∷ []) ≡ Some (attempt (set_of (set row step.num (made pid value))) (Num 0))
  goes-by (To v) value moved ok =
      let stop : waits_for (stop_of (set_of row) (step ∷ [])) ≡ false =
      ap (λ (t : Tried). waits_for (stop_in (step ∷ []) t)) (tried ∙ ap trial moved)
      in let all : Ok value ≡ answer_of (move_by step.add s.value) = ok ∙ ap answer_of (sym moved)
      in ap (λ (b : Bool). if are_tried (set_of row) (step ∷ []) && b then None
      else Some (changed (set_of row) (op (set_of row) pid (step ∷ [])))) stop
      ∙ goes-on (are_tried (set_of row) (step ∷ [])) (changed (set_of row) (op (set_of row) pid (step ∷ [])))
      ∙ ap (λ (r : Result SemaphoreSet Errno). Some (changed (set_of row) r))
      (op_carried pid row (step ∷ []) (omega arith) none-outside
      ∙ ap as_set (carried_last pid row (step ∷ []) step [] s value refl refl inside is all))
  goes-by Waits value moved ok = absurd (cc)
  goes-by TooHigh value moved ok = absurd (cc)

  pub single-goes : (value : ℕ) → Ok value ≡ answer_of (move_by step.add s.value)
      → try_op (set_of row) pid (step ∷ []) ≡ Some (attempt (set_of (set row step.num (made pid value))) (Num 0))
  single-goes value ok = goes-by (move_by step.add s.value) value refl ok

  stops-by : (b : Bool) → may_wait step ≡ b → move_by step.add s.value ≡ Waits
      → TriesTo (try_op (set_of row) pid (step ∷ [])) (set_of row) (set_of row)
      (if b then None else Some (Fail Eagain))
  stops-by true waits moved =
      let trial_is = tried ∙ ap trial moved in
      (op-waits (set_of row) pid (step ∷ []) (omega arith) none-outside 0 step refl trial_is waits, refl)
  stops-by false waits moved =
      op-refused (set_of row) pid (step ∷ []) (omega arith) none-outside 0 step refl (tried ∙ ap trial moved) waits

  too-high : move_by step.add s.value ≡ TooHigh
      → try_op (set_of row) pid (step ∷ []) ≡ Some (attempt (set_of row) (Fail Erange))
  too-high moved =
      let out : try_ops (values_of row) (step ∷ []) ≡ OutOfRange = tried ∙ ap trial moved
      in rw (none-outside, out) refl

  told-by : (m : Moved) (e : Errno) → move_by step.add s.value ≡ m → Err e ≡ answer_of m
      → TriesTo (try_op (set_of row) pid (step ∷ [])) (set_of row) (set_of row) (told_of e step)
  told-by (To v) e moved err = absurd (cc)
  told-by Waits e moved err =
      let same : Eagain ≡ e = cc
      in subst (λ (x : Errno). TriesTo (try_op (set_of row) pid (step ∷ [])) (set_of row) (set_of row) (told_of x step))
      same (stops-by (may_wait step) refl moved)
  told-by TooHigh e moved err =
      let same : Erange ≡ e = cc
      in subst (λ (x : Errno). TriesTo (try_op (set_of row) pid (step ∷ [])) (set_of row) (set_of row) (told_of x step))
      same (too-high moved)

  pub single-told : (e : Errno) → Err e ≡ answer_of (move_by step.add s.value)
      → TriesTo (try_op (set_of row) pid (step ∷ [])) (set_of row) (set_of row) (told_of e step)
  single-told e err = told-by (move_by step.add s.value) e refl err

  -- where it has to wait, it has no reply
  pub single-stops : may_wait step ≡ true → Err Eagain ≡ answer_of (move_by step.add s.value)
      → try_op (set_of row) pid (step ∷ []) ≡ None
  single-stops waits err =
      (subst (λ (b : Bool). TriesTo (try_op (set_of row) pid (step ∷ [])) (set_of row) (set_of row)
      (if b then None else Some (Fail Eagain))) waits (single-told Eagain err)).0
