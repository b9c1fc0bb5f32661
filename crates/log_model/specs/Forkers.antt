-- The node whose block forks another: a node that isn't born looks at the stream from that one alone.
use Rattle.std.specs.Prelude.{ℕ}
use Rattle.pico_base.specs.declared.script.Script.{Script}
use Rattle.world_laws.specs.Names.{forker}

-- the first node whose block forks this one's, 0 where none does
abbrev pub forker_of : Script → ℕ → ℕ
forker_of script p = forker script p
