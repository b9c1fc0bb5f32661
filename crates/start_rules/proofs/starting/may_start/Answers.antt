use Rattle.node_model.specs.Caller.{start_call}
use Rattle.node_state.specs.State.{step_of}
use Rattle.node_state.specs.Started.{started}
use Rattle.start_rules.proofs.Asked.{not-started}
use Rattle.start_rules.proofs.starting.may_start.Goals as goal

pub returns-in-Keys : goal.returns-in-Keys
returns-in-Keys c =
    λ script row none.
    let step = step_of c.args.step.now
    in not-started script (started step c.args.call.now) c.args.call.now row c.args.home.now c.in-Keys.is
    (c.may_ask.ensures script (start_call step.node.caller c.args.call.now) step.node.cache none)
