-- Steps of a semop's trial.
use Rattle.std.proofs.Common.{◌≡◌, ◌∙◌, ◌<◌, ◌≤◌, ℕ, ◌+◌, List, [], ◌∷◌, ◌++◌, length, zero, suc, take, drop, get_or, set, slice_get, Ok, Err, refl, ap, add-one, arith}
use Rattle.std.proofs.Math.Seq.{drop-cons}
use Rattle.std.proofs.lemmas.List.{take_all, drop_all, append-nil, length-map}
use Rattle.pico_base.specs.declared.call.SemStep.{SemStep}
use Rattle.pico_base.specs.declared.reply.Errno.{Errno}
use Rattle.pico_base.specs.declared.reply.Errno.TheVariants.{Eagain, Erange}
use Rattle.kernel_model.specs.SemaphoreSet.{Semaphore, Moved, To, Waits, TooHigh, Tried, values_of, move_at, go_on, try_from}
use Rattle.sysv_sem.specs.Trial.{values_moved, moved, tried_of, stopped_by}

go_on-goes : (i : ℕ) (values next : List ℕ) (num : ℕ) (m : Moved) (rest : List ℕ → Tried)
    → values_moved values num m ≡ Ok next
    → go_on i values num m rest ≡ rest next
go_on-goes i values next num (To value) rest h = let e : set values num value ≡ next = cc in ap rest e
go_on-goes i values next num Waits rest h = absurd (cc)
go_on-goes i values next num TooHigh rest h = absurd (cc)

go_on-stops : (i : ℕ) (values last : List ℕ) (num : ℕ) (e : Errno) (m : Moved) (rest : List ℕ → Tried)
    → values_moved values num m ≡ Err e
    → go_on i values num m rest ≡ tried_of (stopped_by e i) last
go_on-stops i values last num e (To value) rest h = absurd (cc)
go_on-stops i values last num e Waits rest h = let is : Eagain ≡ e = cc in rw (← is) refl
go_on-stops i values last num e TooHigh rest h = let is : Erange ≡ e = cc in rw (← is) refl

-- the operation at a place
at-place : (i : ℕ) (steps : List SemStep) (d : SemStep) → i < length steps
    → drop i steps ≡ get_or steps i d ∷ drop (i + 1) steps
at-place i steps d inside = rw add-one (drop-cons steps i d inside)

-- one that can go on leaves the rest to be tried
pub try-goes-at : (i : ℕ) (values next : List ℕ) (steps : List SemStep) (d : SemStep) → i < length steps
    → moved values (get_or steps i d) ≡ Ok next
    → try_from i values (drop i steps) ≡ try_from (i + 1) next (drop (i + 1) steps)
try-goes-at i values next steps d inside h =
    ap (try_from i values) (at-place i steps d inside)
    ∙ go_on-goes i values next (get_or steps i d).num
    (move_at (get_or steps i d).add (slice_get values (get_or steps i d).num))
    (λ next. try_from (i + 1) next (drop (i + 1) steps)) h

-- one that can't ends the trial
pub try-stops-at : (i : ℕ) (values last : List ℕ) (steps : List SemStep) (d : SemStep) (e : Errno) → i < length steps
    → moved values (get_or steps i d) ≡ Err e
    → try_from i values (drop i steps) ≡ tried_of (stopped_by e i) last
try-stops-at i values last steps d e inside h =
    ap (try_from i values) (at-place i steps d inside)
    ∙ go_on-stops i values last (get_or steps i d).num e
    (move_at (get_or steps i d).add (slice_get values (get_or steps i d).num))
    (λ next. try_from (i + 1) next (drop (i + 1) steps)) h

-- the values of a set, copied one by one
copy-next : (S : List Semaphore) (V : List ℕ) (i : ℕ) (s : Semaphore) → i < length S → length V ≡ length S
    → s ≡ get_or S i s
    → set (take i (values_of S) ++ drop i V) i s.value ≡ take (suc i) (values_of S) ++ drop (suc i) V
copy-next [] V i s inside alike read = absurd (omega arith)
copy-next (x ∷ xs) [] i s inside alike read = absurd (omega (arith, alike))
copy-next (x ∷ xs) (v ∷ vs) zero s inside alike read = ap (λ (y : Semaphore). y.value ∷ vs) read
copy-next (x ∷ xs) (v ∷ vs) (suc i) s inside alike read =
    let left : i < length xs = omega arith
    in let same : length vs ≡ length xs = omega (arith, alike)
    in ap (λ (ys : List ℕ). x.value ∷ ys) (copy-next xs vs i s left same read)

-- one value more is copied
pub copy-step : (S : List Semaphore) (V ys : List ℕ) (i : ℕ) (s : Semaphore) → i < length S → length V ≡ length S
    → ys ≡ take i (values_of S) ++ drop i V
    → s ≡ get_or S i s
    → set ys i s.value ≡ take (i + 1) (values_of S) ++ drop (i + 1) V
copy-step S V ys i s inside alike is read = rw (add-one, is) (copy-next S V i s inside alike read)

-- all are copied
pub copy-done : (S : List Semaphore) (V : List ℕ) (n : ℕ) → length S ≤ n → length V ≡ length S
    → take n (values_of S) ++ drop n V ≡ values_of S
copy-done S V n all alike =
    let many : length (values_of S) ≡ length S = length-map S (λ (s : Semaphore). s.value)
    in let long : length (values_of S) ≤ n = omega (arith, many, all)
    in let past : length V ≤ n = omega (arith, alike, all)
    in rw (take_all n (values_of S) long, drop_all n V past) (append-nil (values_of S))
