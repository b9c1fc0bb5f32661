-- All seats of a lock, seen one by one: for callers that hand them to threads and get them back.
use Rattle.std.proofs.Common.{◌≡◌, ℕ, zero, suc, ◌+◌, ◌<◌, List, [], ◌∷◌, length, get_or, arith}
use Rattle.atomic_table.specs.Seated.{TableId}
use Rattle.journal_core.specs.Seated.{Seated, AreNumbered}

-- each is of the lock
pub lock_of_each : (table : TableId) (n : ℕ) (seats : List Seated) → AreNumbered table n seats
    → (k : ℕ) (d : Seated) → k < length seats → (get_or seats k d).lock ≡ table
lock_of_each table n [] h k d below = absurd (omega arith)
lock_of_each table n (s ∷ ss) h zero d below = h.0
lock_of_each table n (s ∷ ss) h (suc k) d below = lock_of_each table (n + 1) ss h.2 k d (omega arith)

-- and its number goes by its place
pub number_of_each : (table : TableId) (n : ℕ) (seats : List Seated) → AreNumbered table n seats
    → (k : ℕ) (d : Seated) → k < length seats → (get_or seats k d).number ≡ n + k
number_of_each table n [] h k d below = absurd (omega arith)
number_of_each table n (s ∷ ss) h zero d below = let is : s.number ≡ n = h.1 in omega arith
number_of_each table n (s ∷ ss) h (suc k) d below =
    let is : (get_or ss k d).number ≡ n + 1 + k = number_of_each table (n + 1) ss h.2 k d (omega arith) in
    omega arith

-- seats that are so, one by one, are numbered
pub numbered_by_each : (table : TableId) (n : ℕ) (seats : List Seated)
    → ((k : ℕ) (d : Seated) → k < length seats
    → ((get_or seats k d).lock ≡ table) × ((get_or seats k d).number ≡ n + k))
    → AreNumbered table n seats
numbered_by_each table n [] each = tt
numbered_by_each table n (s ∷ ss) each =
    let here = each 0 s (omega arith) in (
      here.0,
      (let is : s.number ≡ n + 0 = here.1 in omega arith),
      numbered_by_each table (n + 1) ss
          (λ k d below.
          let there = each (suc k) d (omega arith) in
          (there.0, (let is : (get_or ss k d).number ≡ n + suc k = there.1 in omega arith))),
    )
