-- What limits a `semop` and a `semctl` with SETALL leave.
use Rattle.std.proofs.Common.{◌≡◌, ℕ, List, Result, Ok, Err, sym, subst}
use Rattle.std.specs.Prelude.{MatchResult}
use Rattle.pico_base.specs.declared.call.SemStep.{SemStep}
use Rattle.pico_base.specs.declared.reply.Errno.{Errno}
use Rattle.kernel_model.specs.SemaphoreSet.{SemaphoreSet, op, set_all}
use Rattle.sysv_sem.specs.Limits.{IsWithinLimits}
use Rattle.sysv_sem.proofs.Within.{op_within, set_all_within}

kept_by : {U : Type 0} (r : Result U Errno) (answer : Result SemaphoreSet Errno) (old new : SemaphoreSet)
    → ((n : SemaphoreSet) → answer ≡ Ok n → IsWithinLimits n)
    → MatchResult r (λ _. answer ≡ Ok new) (λ e. (answer ≡ Err e) × (new ≡ old)) → IsWithinLimits old
    → IsWithinLimits new
kept_by (Ok u) answer old new fine told h = fine new told
kept_by (Err e) answer old new fine told h = subst IsWithinLimits (sym told.1) h

-- a `semop` leaves a set within the limits
pub limits_after_op : {U : Type 0} (r : Result U Errno) (old new : SemaphoreSet) (pid : ℕ) (steps : List SemStep)
    → MatchResult r (λ _. op old pid steps ≡ Ok new) (λ e. (op old pid steps ≡ Err e) × (new ≡ old))
    → IsWithinLimits old → IsWithinLimits new
limits_after_op r old new pid steps told h =
    kept_by r (op old pid steps) old new (λ n is. op_within old.semaphores n pid steps is h) told h

-- so does a SETALL
pub limits_after_set_all : {U : Type 0} (r : Result U Errno) (old new : SemaphoreSet) (values : List ℕ)
    → MatchResult r (λ _. set_all old values ≡ Ok new) (λ e. (set_all old values ≡ Err e) × (new ≡ old))
    → IsWithinLimits old → IsWithinLimits new
limits_after_set_all r old new values told h =
    kept_by r (set_all old values) old new (λ n is. set_all_within old.semaphores n values is h) told h
