use Rattle.std.proofs.Common.{◌∙◌, sym}
use Rattle.node_state.specs.State.{step_of}
use Rattle.start_rules.proofs.Asked.{not-asked}
use Rattle.start_rules.proofs.asking.may_ask.Goals as goal

pub returns-else-not-is_leader : goal.returns-else-not-is_leader
returns-else-not-is_leader c =
    λ script caller cache none.
    let step = step_of c.args.step.now
    in not-asked script step caller cache c.args.call.now
    (sym c.is_leader.ensures ∙ c.if-not-is_leader.false)
    (c.may_route.ensures script step.node.number caller.ticket none)
