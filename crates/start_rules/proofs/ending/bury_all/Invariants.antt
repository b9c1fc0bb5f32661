use Rattle.std.proofs.Common.{◌≡◌, drop}
use Rattle.node_model.specs.Kinds.{put_all}
use Rattle.node_model.specs.Parcels.{all_gone}
use Rattle.node_serve.specs.Bodies.{bodies_of}
use Rattle.start_rules.proofs.ending.bury_all.Given as goal

abbrev pub invariant-loop-pid : goal.invariant-loop-pid
invariant-loop-pid l =
    put_all (bodies_of l.deeds.bodies) (all_gone (drop l.pid-index l.pids))
    ≡ put_all (bodies_of l.fn.deeds.bodies) (all_gone l.pids)
