-- What holds of each family that a process can have.
use Rattle.std.specs.Prelude.{ℕ, ◌≤◌}
use Rattle.kernel_model.specs.Row.{Family}
use Rattle.fork_wait.specs.Children.{AreChildren, children}

-- its children are as they have to be, and each of the two lists has room for 31
pub record HasRoom (f : Family) (living_room ended_room : ℕ) : Type 0 where
  pub sound : AreChildren (children f)
  pub living : 31 ≤ living_room
  pub ended : 31 ≤ ended_room
