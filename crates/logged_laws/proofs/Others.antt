-- The other nodes of a script: each is a node of it, and no two are the same.
use Rattle.std.proofs.Common.{◌≢◌, ℕ, zero, suc, ◌+◌, ◌<◌, ◌≤◌, not, nat_eq, arith}
use Rattle.std.specs.List.{AllByRecursion}
use Rattle.pico_base.specs.declared.script.Script.{Script}
use Rattle.stamp_merge.proofs.Filters.{all-map}
use Rattle.world_model.specs.World.{IsNode, numbers, node_count}
use Rattle.log_model.specs.Logged.{others_of}
use Rattle.logged_laws.proofs.Lists.{filter-keeps, AreApart, filter-apart}

-- ---- numbers in a row

record IsWithin (low high p : ℕ) : Type 0 where
  from : low ≤ p
  below : p < high

wider : (low high p : ℕ) → IsWithin (low + 1) high p → IsWithin low high p
wider low high p is =
    let from : low + 1 ≤ p = is.from in record { from = omega arith; below = is.below }

within : (first count high : ℕ) → first + count ≤ high
    → AllByRecursion (IsWithin first high) (numbers first count)
within first zero high fits = tt
within first (suc count) high fits = (
  record { from = omega arith; below = omega arith },
  all-map (λ (p : ℕ) is. wider first high p is) (numbers (first + 1) count)
      (within (first + 1) count high (omega arith)),
)

apart-from : (low high p : ℕ) → IsWithin (low + 1) high p → low ≢ p
apart-from low high p is same = let from : low + 1 ≤ p = is.from in absurd (omega arith)

numbers-apart : (first count : ℕ) → AreApart (numbers first count)
numbers-apart first zero = tt
numbers-apart first (suc count) = (
  all-map (λ (p : ℕ) is. apart-from first (first + 1 + count) p is) (numbers (first + 1) count)
      (within (first + 1) count (first + 1 + count) (omega arith)),
  numbers-apart (first + 1) count,
)

-- ---- the other nodes

node-within : (script : Script) (p : ℕ) → IsWithin 1 (1 + node_count script) p → IsNode script p
node-within script p is =
    let below : p < 1 + node_count script = is.below in record { low = is.from; high = omega arith }

-- they are nodes of the script,
pub others-are-nodes : (script : Script) (number : ℕ) → AllByRecursion (IsNode script) (others_of script number)
others-are-nodes script number =
    filter-keeps (IsNode script) (λ q. not (nat_eq q number)) (numbers 1 (node_count script))
    (all-map (λ (p : ℕ) is. node-within script p is) (numbers 1 (node_count script))
    (within 1 (node_count script) (1 + node_count script) (omega arith)))

-- and no two are the same
pub others-apart : (script : Script) (number : ℕ) → AreApart (others_of script number)
others-apart script number =
    filter-apart (λ q. not (nat_eq q number)) (numbers 1 (node_count script)) (numbers-apart 1 (node_count script))
