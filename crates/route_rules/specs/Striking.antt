-- The call with which the node's process waits at a name is interrupted.
use Rattle.pico_base.specs.declared.call.Call.TheVariants as calls
use Rattle.pico_base.specs.declared.numbers.Name.{Name}
use Rattle.pico_base.specs.declared.script.Script.{Script}
use Rattle.node_model.specs.Caller.{note_cancel}
use Rattle.world_model.specs.Node.{Node, asked_here}
use Rattle.world_model.specs.Step.{Step, with_node}
use Rattle.world_model.specs.Strikes.{strike_at}

-- it is noted, and withdrawn from there
abbrev pub struck_there : Script → Step → Name → Step
struck_there script step name =
    let n : Node = step.node
    in strike_at script (with_node step (record n { caller = note_cancel n.caller }))
    (asked_here n (calls.Withdraw name)) name
