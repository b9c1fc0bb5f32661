-- A node starts its process's next call.
use Rattle.std.specs.Prelude.{ℕ, ◌+◌, not, ◌&&◌, nat_eq, if◌then◌else◌, Option, Some, None, Result, Ok, Err}
use Rattle.std.specs.Option.{option_map, option_and_then}
use Rattle.pico_base.specs.declared.call.Call.{Call}
use Rattle.pico_base.specs.declared.call.Call.TheVariants as calls
use Rattle.pico_base.specs.declared.call.Home.{Home}
use Rattle.pico_base.specs.declared.call.Home.TheVariants as homes
use Rattle.pico_base.specs.declared.numbers.Kind.{Kind}
use Rattle.pico_base.specs.declared.numbers.Kind.TheVariants as kinds
use Rattle.pico_base.specs.declared.numbers.Name.{Name}
use Rattle.pico_base.specs.declared.reply.Errno.{Errno}
use Rattle.pico_base.specs.declared.reply.Reply.TheVariants as replies
use Rattle.pico_base.specs.declared.script.Script.{Script}
use Rattle.pico_base.specs.Home.{home_of}
use Rattle.rpc_frame.specs.declared.frame.Frame.TheVariants as frames
use Rattle.kernel_model.specs.Numbers.{is_u32}
use Rattle.kernel_model.specs.SemaphoreSet.{SemaphoreSet, new_set}
use Rattle.kernel_model.specs.Row.{Row}
use Rattle.waiting_model.specs.Calls.{is_withdrawal, may_park}
use Rattle.node_model.specs.Kinds.{for_kind, put_all}
use Rattle.node_model.specs.Cache.{owner_in, look}
use Rattle.node_model.specs.Leases.{is_used_up}
use Rattle.node_model.specs.Caller.{due_call, start_call}
use Rattle.node_model.specs.Serving.{Served, serve, waiting_as}
use Rattle.node_model.specs.Parcels.{end_first}
use Rattle.world_model.specs.Node.{Node, Leaving, Over, is_leader, can_run, holds, own_row, asked_here}
use Rattle.world_model.specs.Step.{Step, step_to, with_node, with_deeds, send, carry_out, carry_out_waking}
use Rattle.world_model.specs.Serving.{serve_asked}
use Rattle.world_model.specs.Numbers.{make}
use Rattle.world_model.specs.Routes.{route_call}

-- ---- calls on the process itself: a `waitpid` that has to wait does so here

abbrev pub carry_out_own : Script → Step → Call → Served → Step
carry_out_own script step call s =
    carry_out_waking script (with_deeds step (put_all step.node.deeds s.changes))
    (asked_here step.node call) s.own s.wakes

abbrev pub act : Script → Step → Call → Option Step
act script step call =
    option_map (carry_out_own script step call) (serve step.node.deeds (waiting_as (asked_here step.node call)))

-- A call that takes a number is carried out with the next number of the node's lease. Where that is used up the node
-- asks the leader for a range, and the leader takes its own next one.
abbrev pub start_making : Script → Step → Call → Kind → Option Step
start_making script step call kind =
    if is_used_up (for_kind step.node.leases kind) && not (is_leader step.node)
    then Some (send step 1 (frames.LeaseAsk kind))
    else make script step call kind

-- a set of a bad size is refused, and takes no number
abbrev pub start_set : Script → Step → Call → Result SemaphoreSet Errno → Option Step
start_set script step call (Err e) = Some (carry_out script step (asked_here step.node call) (replies.Fail e))
start_set script step call (Ok set) = start_making script step call kinds.Sem

abbrev pub start_own : Script → Step → Call → Option Step
start_own script step (calls.Fork block) = start_making script step (calls.Fork block) kinds.Proc
start_own script step (calls.MsgGet key create excl) = start_making script step (calls.MsgGet key create excl) kinds.Msg
start_own script step (calls.SemGet key count create excl) =
    start_set script step (calls.SemGet key count create excl) (new_set count)
start_own script step call = act script step call

-- ---- calls that others carry out

-- the leader routes the call, and any other node asks it to
abbrev pub ask : Script → Step → Call → Option Step
ask script step call =
    let n : Node = step.node
    in if is_leader n
    then route_call script step (asked_here n call)
    else Some (send step 1 (frames.Ask n.caller.ticket n.pid call))

-- the owner that the cache names is asked, if it is another node
abbrev pub request : Script → Step → Call → Option ℕ → Option Step
request script step call None = ask script step call
request script step call (Some owner) =
    let n : Node = step.node
    in if nat_eq owner n.number
    then ask script step call
    else Some (send step owner (frames.Request n.caller.ticket n.pid call))

abbrev pub with_look : Node → Name → Node
with_look n name = record n { cache = look n.cache name }

-- A call that may have to wait is asked of the leader alone: who owns its name when a withdrawal follows it is then
-- found by the same way.
abbrev pub start_at : Script → Step → Call → Name → Option Step
start_at script step call name =
    let n : Node = step.node
    in if holds n name
    then serve_asked script step name (asked_here n call)
    else if may_park call
    then ask script step call
    else request script (with_node step (with_look n name)) call (owner_in n.cache name)

-- ---- the end

-- process 1 ends at once, and node 1 goes on as the leader
abbrev pub end_leader : Script → Step → Call → Row → Step
end_leader script step call row =
    let n : Node = step.node
    in let ended : Step = with_node step (record n { stage = Over; deeds = put_all n.deeds (end_first n.pid row) })
    in carry_out script ended (asked_here n call) replies.Ended

abbrev pub leave : Step → Step
leave step =
    let n : Node = step.node
    in send (with_node step (record n { stage = Leaving })) 1 (frames.Leaving n.pid n.parent n.parent_node)

abbrev pub start_end : Script → Step → Call → Row → Step
start_end script step call row = if is_leader step.node then end_leader script step call row else leave step

-- ---- the run rule

abbrev pub start_by : Script → Step → Call → Row → Home → Option Step
start_by script step call row homes.Own = start_own script step call
start_by script step call row (homes.At name) = start_at script step call name
start_by script step call row homes.Keys = ask script step call
start_by script step call row (homes.Removal name) = ask script step call
start_by script step call row homes.Parent = Some (start_end script step call row)

abbrev pub start : Script → Node → Row → Call → Option Step
start script n row call =
    if is_withdrawal call
    then None
    else start_by script (step_to (record n { caller = start_call n.caller call })) call row (home_of n.pid call)

abbrev pub start_due : Script → Node → Row → Option Step
start_due script n row = option_and_then (start script n row) (due_call script n.number n.caller row.signals.doom)

-- A node runs where it can and a call is due. A further ticket has to be a number of four bytes.
abbrev pub run : Script → Node → Option Step
run script n =
    if can_run n && is_u32 (n.caller.ticket + 1) then option_and_then (start_due script n) (own_row n) else None
