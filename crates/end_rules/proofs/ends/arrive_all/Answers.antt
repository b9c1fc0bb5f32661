use Rattle.std.proofs.Common.{◌∙◌, ◌+◌, List, ◌++◌, take, ap, sym, subst}
use Rattle.node_model.specs.declared.held.Held.{Held}
use Rattle.node_state.specs.State.{step_of}
use Rattle.end_rules.specs.Ending.{AllArrived}
use Rattle.end_rules.proofs.Endings.{step-arrived}
use Rattle.end_rules.proofs.ends.arrive_all.Goals as goal

pub loop-name-preserved : goal.loop-name-preserved
loop-name-preserved c =
    subst (λ (items : List Held).
    AllArrived (step_of c.args.step.now) (take (c.loop-name.name-index + 1) c.args.names.now) c.args.node
    (step_of c.arrive.new.step) items)
    (sym (c.in_ok-append.ensures.items ∙ ap (λ more. c.loop-name.items.items ++ more) c.into_vec-held.ensures))
    (step-arrived (step_of c.args.step.now) (step_of c.loop-name.step) (step_of c.arrive.new.step) c.args.names.now
    c.loop-name.name-index c.name-item.result c.args.node c.loop-name.items.items c.in_ok-arrive.field-0
    c.loop-name-test.true c.name-item.is c.loop-name.invariant c.in_ok-arrive.ensures)
