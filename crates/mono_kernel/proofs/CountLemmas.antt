-- A step of a count of those who wait.
use Rattle.std.proofs.Common.{◌≡◌, ◌∙◌, ℕ, ◌+◌, Bool, cond, List, take, slice_get, Option, Some, None, refl, sym, ap}
use Rattle.std.specs.List.{count_by}
use Rattle.std.proofs.lemmas.List.Sums.{fold_more}
use Rattle.std.proofs.lemmas.Option.{slice_get_within, get_or_from_slice_get}
use Rattle.pico_base.specs.declared.call.SemStep.{SemStep}
use Rattle.kernel_model.specs.SemaphoreSet.{SemaphoreSet}
use Rattle.waiting_model.specs.declared.callers.Waiting.{Waiting}
use Rattle.waiting_model.specs.Waiters.{Awaited}
use Rattle.waiting_model.specs.SemaphoreSet.{stop_of, steps_of}
use Rattle.mono_kernel.specs.Waiters.{StopsAt, StopsIn}

counts : {X : Type 0} (p : X → Bool) (xs : List X) (i : ℕ) (x : X) → slice_get xs i ≡ Some x
    → count_by p (take i xs) + cond (p x) 1 0 ≡ count_by p (take (i + 1) xs)
counts p xs i x there =
    sym (fold_more (λ a y. a + cond (p y) 1 0) 0 xs i x (slice_get_within xs i x there)
    ∙ ap (λ z. count_by p (take i xs) + cond (p z) 1 0) (get_or_from_slice_get xs i x x there))

-- a count that goes on by one waiter
pub count-step : (test : Option SemStep → Bool) (object : Awaited SemaphoreSet) (i n m : ℕ) (stop : Option SemStep)
    → StopsAt object i stop
    → n ≡ count_by (λ w. test (stop_of object.state (steps_of w.call))) (take i object.waiters)
    → m ≡ cond (test stop) 1 0
    → n + m ≡ count_by (λ w. test (stop_of object.state (steps_of w.call))) (take (i + 1) object.waiters)
count-step test object i n m stop at counted one = here (slice_get object.waiters i) refl at
  where
    here : (o : Option Waiting) → slice_get object.waiters i ≡ o → StopsIn object.state o stop
        → n + m ≡ count_by (λ w. test (stop_of object.state (steps_of w.call))) (take (i + 1) object.waiters)
    here None there h = absurd h
    here (Some w) there h =
        rw (counted, one, h)
        (counts (λ v. test (stop_of object.state (steps_of v.call))) object.waiters i w there)
