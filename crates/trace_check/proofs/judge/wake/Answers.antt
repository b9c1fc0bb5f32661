use Rattle.std.proofs.Common.{sym, subst}
use Rattle.std.proofs.lemmas.Result.{on_ok_weaker}
use Rattle.trace_check.specs.Cursors.{AreSteady}
use Rattle.trace_check.proofs.SteadyLaws.{steady-after-woken, steady-at, wake-lands}
use Rattle.trace_check.proofs.judge.wake.Goals as goal

pub answers-requires : goal.answers-requires
answers-requires c =
    steady-at c.args.script.now c.args.cursors.now.entries c.args.pid c.value_mut.result.now c.requires
    (rw c.pid.view_is at c.value_mut.ensures.value)

pub returns-in-Some-clause-woken : goal.returns-in-Some-clause-woken
returns-in-Some-clause-woken c =
    on_ok_weaker c.answers.result
    (λ e. wake-lands c.args.script.now c.args.cursors.now.entries c.pid.inside.0 c.args.pid c.args.reply.now
    c.value_mut.result.now c.answers.new.self c.pid.view_is c.value_mut.ensures.value e)
    c.answers.ensures

pub returns-in-Some-clause-steady : goal.returns-in-Some-clause-steady
returns-in-Some-clause-steady c =
    on_ok_weaker c.answers.result
    (λ e. subst (AreSteady c.args.script.now)
    (sym (wake-lands c.args.script.now c.args.cursors.now.entries c.pid.inside.0 c.args.pid c.args.reply.now
    c.value_mut.result.now c.answers.new.self c.pid.view_is c.value_mut.ensures.value e))
    (steady-after-woken c.args.script.now c.args.cursors.now.entries (c.args.pid, c.args.reply.now)
    c.requires))
    c.answers.ensures
