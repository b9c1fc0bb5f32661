use Rattle.std.proofs.Common.{sym, subst}
use Rattle.trace_check.specs.Cursors.{AreSteady}
use Rattle.trace_check.proofs.SteadyLaws.{steady-after-made}
use Rattle.trace_check.proofs.judge.move_on.Goals as goal

pub wake_all-requires : goal.wake_all-requires
wake_all-requires c =
    subst (AreSteady c.args.script.now) (sym c.in_ok-make.ensures)
    (steady-after-made c.args.script.now c.args.cursors.now.entries c.args.pid c.args.call.now
    c.args.outcome.now.own c.requires.steady c.requires.may)
