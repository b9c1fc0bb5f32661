use Rattle.std.proofs.Common.{◌∙◌, sym}
use Rattle.number_maps.specs.Maps.{get}
use Rattle.trace_check.proofs.SteadyLaws.{no-child}
use Rattle.trace_check.proofs.judge.make.Goals as goal

pub returns-else-may_fork : goal.returns-else-may_fork
returns-else-may_fork c =
    rw (no-child c.args.script.now (get c.args.cursors.now.entries c.args.pid) c.args.call.now c.args.own.now
    (sym c.may_fork.ensures ∙ c.if-may_fork.false)) c.move_at.ensures
