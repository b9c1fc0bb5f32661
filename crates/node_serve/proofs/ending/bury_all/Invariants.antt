use Rattle.std.proofs.Common.{◌≡◌, take, fold}
use Rattle.node_serve.specs.Ending.{gone_held}
use Rattle.node_serve.proofs.ending.bury_all.Given as goal

abbrev pub invariant-loop-name : goal.invariant-loop-name
invariant-loop-name l =
    (l.deeds.bodies ≡ fold gone_held l.initial.deeds.bodies (take l.name-index l.names))
    × (l.deeds.spare ≡ l.initial.deeds.spare)
