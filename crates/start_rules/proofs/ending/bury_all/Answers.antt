use Rattle.start_rules.proofs.Burying.{next-buried}
use Rattle.start_rules.proofs.ending.bury_all.Goals as goal

pub loop-pid-preserved : goal.loop-pid-preserved
loop-pid-preserved c =
    next-buried c.loop-pid.deeds.bodies c.reserve.new.self.bodies c.bury.new.deeds.bodies _ c.args.pids.now
    c.loop-pid.pid-index c.pid-item.result c.loop-pid.invariant c.loop-pid-test.true c.pid-item.is
    c.in_ok-reserve.ensures.same c.bury.ensures
