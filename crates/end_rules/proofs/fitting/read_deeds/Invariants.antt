use Rattle.std.proofs.Common.{◌≡◌, drop}
use Rattle.node_model.specs.Parcels.{read_deeds}
use Rattle.node_serve.specs.Bodies.{numbered_of}
use Rattle.end_rules.proofs.Read.{read_behind}
use Rattle.end_rules.proofs.fitting.read_deeds.Given as goal

-- those so far are read
abbrev pub invariant-loop-deed : goal.invariant-loop-deed
invariant-loop-deed l = read_deeds l.deeds ≡ read_behind (numbered_of l.bodies.items) (drop l.deed-index l.deeds)
