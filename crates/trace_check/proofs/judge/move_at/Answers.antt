use Rattle.std.proofs.lemmas.Result.{on_ok_weaker}
use Rattle.trace_check.proofs.SteadyLaws.{move-lands, steady-at}
use Rattle.trace_check.proofs.judge.move_at.Goals as goal

pub goes_on-requires-clause-steady : goal.goes_on-requires-clause-steady
goes_on-requires-clause-steady c =
    steady-at c.args.script.now c.args.cursors.now.entries c.args.pid c.value_mut.result.now c.requires.steady
    (rw c.pid.view_is at c.value_mut.ensures.value)

pub returns-in-Some : goal.returns-in-Some
returns-in-Some c =
    on_ok_weaker c.goes_on.result
    (λ e. move-lands c.args.script.now c.args.cursors.now.entries c.pid.inside.0 c.args.pid c.args.call.now
    c.args.own.now c.value_mut.result.now c.goes_on.new.self c.pid.view_is c.value_mut.ensures.value e)
    c.goes_on.ensures
