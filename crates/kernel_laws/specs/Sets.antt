-- What holds of each semaphore set, whatever was called before (profile).
use Rattle.std.specs.Prelude.{◌≡◌, ℕ, ◌≤◌, length, Some}
use Rattle.std.specs.List.{All}
use Rattle.number_maps.specs.Maps.{get}
use Rattle.kernel_model.specs.SemaphoreSet.{SemaphoreSet}
use Rattle.kernel_model.specs.Kernel.{Kernel}
use Rattle.kernel_laws.specs.Reachable.{IsReachableKernel}

-- a set has between 1 and 64 semaphores, each with a value of at most 32,767
pub record IsSetWithinLimits (set : SemaphoreSet) : Type 0 where
  pub least : 1 ≤ length set.semaphores
  pub most : length set.semaphores ≤ 64
  pub values : All (λ s. s.value ≤ 32767) set.semaphores

abbrev pub SetsAreWithinLimits : Type 0
SetsAreWithinLimits =
    (k : Kernel) → IsReachableKernel k → (id : ℕ) (set : SemaphoreSet) → get k.sets id ≡ Some set
    → IsSetWithinLimits set
