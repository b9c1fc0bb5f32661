use Rattle.std.proofs.Common.{◌≡◌, take}
use Rattle.deed_box.specs.Packing.{names_of}
use Rattle.node_serve.proofs.ending.names_of.Given as goal

abbrev pub invariant-loop-deed : goal.invariant-loop-deed
invariant-loop-deed l = l.names.items ≡ names_of (take l.deed-index l.deeds)
