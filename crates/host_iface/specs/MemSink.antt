-- What is seen of a sink in memory.
use Rattle.std.specs.Prelude.{ℕ, List}

pub record Writing : Type 0 where
  pub taken : List ℕ  -- the bytes that it keeps
  pub room : ℕ  -- how many more it can take
  pub fail_at : List ℕ  -- the writes that fail, counted from 1
  pub calls : ℕ  -- how many writes there were, as a u64 counts
  pub faults : ℕ  -- how many of them failed
