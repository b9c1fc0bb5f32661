use Rattle.std.proofs.Common.{◌≡◌, take}
use Rattle.pico_cmd.proofs.copied.copy_of.Given as goal

-- so far
abbrev pub invariant-loop-block : goal.invariant-loop-block
invariant-loop-block l = l.blocks ≡ take l.block-index l.script.blocks
