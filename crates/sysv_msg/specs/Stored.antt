-- A queue, and for how many further messages there is memory.
use Rattle.std.specs.Prelude.{ℕ}
use Rattle.kernel_model.specs.Queue.{Queue}

pub record Stored : Type 0 where
  pub queue : Queue
  pub room : ℕ
