use Rattle.std.proofs.Common.{sym}
use Rattle.trace_check.proofs.SteadyLaws.{steady-at}
use Rattle.trace_check.proofs.judge.forked_at.Goals as goal

pub forked_child-requires-clause-steady : goal.forked_child-requires-clause-steady
forked_child-requires-clause-steady c =
    steady-at c.args.script.now c.args.cursors.now.entries c.args.pid c.in-Some.parent.now c.requires.steady
    (rw c.pid.view_is at (sym c.in-Some.ensures))
