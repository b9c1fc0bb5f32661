use Rattle.std.proofs.Common.{◌≡◌, drop}
use Rattle.node_model.specs.Parcels.{are_rising}
use Rattle.node_serve.specs.Bodies.{numbered_of}
use Rattle.end_rules.proofs.Read.{rise_behind}
use Rattle.end_rules.proofs.fitting.are_rising.Given as goal

-- those so far rise
abbrev pub invariant-loop-number : goal.invariant-loop-number
invariant-loop-number l =
    are_rising (numbered_of l.bodies) ≡ rise_behind l.last (numbered_of (drop l.number-index l.bodies))
