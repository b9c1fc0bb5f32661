use Rattle.std.proofs.Common.{◌≡◌, drop}
use Rattle.number_maps.specs.Maps.{get}
use Rattle.node_model.specs.Parcels.{has_own_row}
use Rattle.node_serve.specs.Bodies.{numbered_of}
use Rattle.end_rules.proofs.fitting.has_own_row.Given as goal

-- the process's body isn't among those so far
abbrev pub invariant-loop-number : goal.invariant-loop-number
invariant-loop-number l =
    has_own_row l.call (get (numbered_of l.bodies) l.fn.pid)
    ≡ has_own_row l.call (get (numbered_of (drop l.number-index l.bodies)) l.fn.pid)
