use Rattle.std.proofs.Common.{◌≡◌, take}
use Rattle.pico_cmd.proofs.copied.copy_of_block.Given as goal

-- so far
abbrev pub invariant-loop-line : goal.invariant-loop-line
invariant-loop-line l = l.lines ≡ take l.line-index l.block.lines
