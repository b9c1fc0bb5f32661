use Rattle.std.proofs.Common.{◌≡◌, drop}
use Rattle.script_reader.specs.Fault.{begun_with}
use Rattle.script_reader.proofs.place.begun_with.Given as goal

-- the block isn't among those so far
abbrev pub invariant-loop-block : goal.invariant-loop-block
invariant-loop-block l = begun_with (drop l.block-index l.begun) l.number ≡ begun_with l.begun l.number
