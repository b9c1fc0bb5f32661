use Rattle.std.proofs.Common.{sym, subst, IsTrue}
use Rattle.kernel_model.specs.Script.{Vars}
use Rattle.node_calls.specs.Caller.{are_rising}
use Rattle.trace_check.proofs.SteadyLaws.{child-vars-rise}
use Rattle.trace_check.proofs.judge.forked_child.Goals as goal

pub new-requires : goal.new-requires
new-requires c =
    subst (λ (vars : Vars). IsTrue (are_rising vars)) (sym c.in_ok-vars.ensures)
    (child-vars-rise c.args.script.now c.args.parent.now c.requires.steady)
