-- Values and last processes written into a set.
use Rattle.std.proofs.Common.{◌≡◌, ◌<◌, ◌≤◌, ℕ, zero, suc, ◌+◌, Bool, true, false, ◌||◌, nat_le, List, [], ◌∷◌, ◌++◌, length, take, drop, get_or, set, refl, ap, add-one, arith}
use Rattle.std.specs.List.{fold, list_any}
use Rattle.std.proofs.lemmas.List.{take_all, drop_all, append-nil}
use Rattle.std.proofs.lemmas.List.Sums.{fold_more}
use Rattle.std.proofs.lemmas.Option.{slice_get_read}
use Rattle.pico_base.specs.declared.call.SemStep.{SemStep}
use Rattle.kernel_model.specs.SemaphoreSet.{Semaphore, with_values, mark}

pub length-with_values : (set : List Semaphore) (values : List ℕ) → length (with_values set values) ≡ length set
length-with_values [] values = refl
length-with_values (s ∷ ss) [] = refl
length-with_values (s ∷ ss) (v ∷ vs) = ap suc (length-with_values ss vs)

-- the values of the first places are written, and here is the next
write-next : (S : List Semaphore) (V : List ℕ) (i : ℕ) (s : Semaphore) → i < length S → i < length V
    → s ≡ get_or (take i (with_values S V) ++ drop i S) i s
    → set (take i (with_values S V) ++ drop i S) i (record s { value = get_or V i 0 })
    ≡ take (suc i) (with_values S V) ++ drop (suc i) S
write-next [] V i s inside some is = absurd (omega arith)
write-next (x ∷ xs) [] i s inside some is = absurd (omega arith)
write-next (x ∷ xs) (v ∷ vs) zero s inside some is = ap (λ (y : Semaphore). record y { value = v } ∷ xs) is
write-next (x ∷ xs) (v ∷ vs) (suc i) s inside some is =
    let left : i < length xs = omega arith
    in let more : i < length vs = omega arith
    in ap (λ (ys : List Semaphore). record x { value = v } ∷ ys) (write-next xs vs i s left more is)

-- one more value is written
pub write-step : (S : List Semaphore) (V : List ℕ) (ys : List Semaphore) (i : ℕ) (s t : Semaphore) → i < length V
    → length V ≡ length S
    → ys ≡ take i (with_values S V) ++ drop i S → t ≡ s → s ≡ get_or ys i s
    → set ys i (record t { value = get_or V i 0 }) ≡ take (i + 1) (with_values S V) ++ drop (i + 1) S
write-step S V ys i s t some alike is same read =
    let inside : i < length S = omega arith
    in rw (add-one, same, is) (write-next S V i s inside some (rw (← is) read))

-- one more semaphore is marked with the caller
pub mark-step : (S : List Semaphore) (pid : ℕ) (steps : List SemStep) (i n : ℕ) (d : SemStep) (ys : List Semaphore)
    (s t : Semaphore)
    → i < length steps → n ≡ (get_or steps i d).num → n < length ys → ys ≡ fold (mark pid) S (take i steps) → t ≡ s
    → s ≡ get_or ys n s
    → set ys n (record t { last = pid }) ≡ fold (mark pid) S (take (i + 1) steps)
mark-step S pid steps i n d ys s t inside is_num within is same read =
    rw (
      same,
      fold_more (mark pid) S steps i d inside,
      ← is,
      ← is_num,
      slice_get_read ys (length ys) n s refl within read,
    )

-- where no step names a number from this size on, each is below
pub below-size : (size : ℕ) (steps : List SemStep) → list_any (λ step. nat_le size step.num) steps ≡ false
    → (k : ℕ) (d : SemStep) → k < length steps → (get_or steps k d).num < size
below-size size [] none k d inside = absurd (omega arith)
below-size size (step ∷ steps) none zero d inside = first_below size step (list_any (λ s. nat_le size s.num) steps) none
  where
    first_below : (size : ℕ) (step : SemStep) (b : Bool) → (nat_le size step.num || b) ≡ false → step.num < size
    first_below size step b none = grind arith
below-size size (step ∷ steps) none (suc k) d inside =
    below-size size steps (rest_none (nat_le size step.num) (list_any (λ s. nat_le size s.num) steps) none) k d
    (omega arith)
  where
    rest_none : (a b : Bool) → (a || b) ≡ false → b ≡ false
    rest_none true b none = absurd (cc)
    rest_none false b none = none

-- all values are written
pub write-done : (S : List Semaphore) (V : List ℕ) (n : ℕ) → length S ≤ n
    → take n (with_values S V) ++ drop n S ≡ with_values S V
write-done S V n all =
    let long : length (with_values S V) ≤ n = omega (arith, length-with_values S V)
    in rw (take_all n (with_values S V) long, drop_all n S all) (append-nil (with_values S V))
