-- What is seen of a source in memory.
use Rattle.std.specs.Prelude.{ℕ, List}

pub record Reading : Type 0 where
  pub left : List ℕ  -- the bytes still to come
  pub fail_at : List ℕ  -- the reads that fail, counted from 1
  pub calls : ℕ  -- how many reads there were, as a u64 counts
  pub faults : ℕ  -- how many of them failed
