-- No process is listed twice.
use Rattle.std.specs.Prelude.{◌≡◌, ℕ, nat_eq, map, Some}
use Rattle.std.specs.List.{IsDistinct}
use Rattle.kernel_model.specs.Row.{Alive, Family}
use Rattle.kernel_model.specs.Kernel.{Kernel, living_at}
use Rattle.kernel_laws.specs.Reachable.{IsReachableKernel}

-- no child stands twice among the living ones, nor among the ended ones
pub record ListsOnce (f : Family) : Type 0 where
  pub living : IsDistinct nat_eq f.living
  pub ended : IsDistinct nat_eq (map (λ e. e.pid) f.ended)

abbrev pub ChildrenAreListedOnce : Type 0
ChildrenAreListedOnce =
    (k : Kernel) → IsReachableKernel k → (pid : ℕ) (a : Alive) → living_at k pid ≡ Some a → ListsOnce a.row.family
