-- A signal strikes a process whose call waits, and so interrupts the call (System Interfaces 2.4: a signal that is
-- caught, or that ends the process, interrupts a call that waits; EINTR).
use Rattle.std.specs.Prelude.{◌&&◌, if◌then◌else◌, Option, Some, None}
use Rattle.std.specs.Option.{option_map}
use Rattle.pico_base.specs.declared.call.Call.{Call}
use Rattle.pico_base.specs.declared.call.Call.TheVariants as calls
use Rattle.pico_base.specs.declared.numbers.Name.{Name}
use Rattle.pico_base.specs.declared.numbers.Name.TheVariants.{Proc, Msg, Sem}
use Rattle.pico_base.specs.declared.reply.Errno.TheVariants.{Eintr}
use Rattle.pico_base.specs.declared.reply.Reply.TheVariants as replies
use Rattle.pico_base.specs.declared.script.Script.{Script}
use Rattle.rpc_frame.specs.declared.asked.Asked.{Asked}
use Rattle.waiting_model.specs.Calls.{waits_at, withdrawn_from}
use Rattle.node_model.specs.Leases.{leases_hold}
use Rattle.node_model.specs.Caller.{to_cancel, note_cancel}
use Rattle.node_model.specs.Serving.{Withdrawn, Leaves, NotThere, NotHeld, withdraw}
use Rattle.world_model.specs.Node.{Node, is_leader, is_born, is_node, asked_here}
use Rattle.world_model.specs.Step.{Step, step_to, with_node, carry_out}
use Rattle.world_model.specs.Serving.{interrupted}
use Rattle.world_model.specs.Routes.{cancel, route_cancel}

-- ---- the strike rule

-- the withdrawal of the node's own call
abbrev pub withdrawing : Node → Call → Asked
withdrawing n call = asked_here n (calls.Withdraw (waits_at n.pid call))

-- a call that waits on a queue or a set that isn't held here: the leader finds where that is
abbrev pub tell_leader : Script → Step → Name → Asked → Step
tell_leader script step name asked =
    if is_leader step.node then route_cancel script step name asked else cancel step 1 asked

abbrev pub strike_object : Script → Step → Name → Asked → Withdrawn → Step
strike_object script step name asked (Leaves body) = interrupted script step name asked body
strike_object script step name asked NotThere = tell_leader script step name asked
strike_object script step name asked NotHeld = tell_leader script step name asked

-- A `waitpid` is interrupted at once, and so is a call that waits in a deed held here. Any other is told the leader,
-- also where the deed is held and the call isn't among those who wait: it is still out, or its reply is on its way.
abbrev pub strike_at : Script → Step → Asked → Name → Step
strike_at script step asked (Proc pid) = carry_out script step asked (replies.Fail Eintr)
strike_at script step asked (Msg id) =
    strike_object script step (Msg id) asked (withdraw step.node.deeds (Msg id) asked.pid asked.ticket)
strike_at script step asked (Sem id) =
    strike_object script step (Sem id) asked (withdraw step.node.deeds (Sem id) asked.pid asked.ticket)

abbrev pub strike_call : Script → Step → Option Call → Step
strike_call script step None = step
strike_call script step (Some call) =
    let n : Node = step.node
    in strike_at script (with_node step (record n { caller = note_cancel n.caller })) (withdrawing n call)
    (waits_at n.pid call)

-- It comes last in the event, once, and looks at the call that is under way then: one that the event has answered isn't
-- interrupted.
abbrev pub strike : Script → Step → Step
strike script step = if step.strikes then strike_call script step (to_cancel step.node.caller) else step

-- ---- the Cancel rule: the leader sends it on by the name's place, and any other node takes the waiter out

abbrev pub cancelled_at : Script → Node → Name → Asked → Withdrawn → Step
cancelled_at script n name asked (Leaves body) = interrupted script (step_to n) name asked body
cancelled_at script n name asked NotThere = step_to n
cancelled_at script n name asked NotHeld = if leases_hold n.leases name then step_to n else cancel (step_to n) 1 asked

abbrev pub cancelled : Script → Node → Asked → Name → Step
cancelled script n asked name =
    if is_leader n
    then route_cancel script (step_to n) name asked
    else cancelled_at script n name asked (withdraw n.deeds name asked.pid asked.ticket)

abbrev pub take_cancel : Script → Node → Asked → Option Step
take_cancel script n asked =
    if is_born n && is_node script asked.caller
    then option_map (cancelled script n asked) (withdrawn_from asked.call)
    else None
