-- New numbers, and what they are given to.
use Rattle.std.specs.Prelude.{ℕ, Bool, not, ◌&&◌, List, [], ◌∷◌, if◌then◌else◌, Option, Some, None}
use Rattle.std.specs.List.{list_any}
use Rattle.std.specs.Option.{option_map, option_and_then}
use Rattle.pico_base.specs.declared.call.Call.{Call}
use Rattle.pico_base.specs.declared.call.Call.TheVariants as calls
use Rattle.pico_base.specs.declared.numbers.Kind.{Kind}
use Rattle.pico_base.specs.declared.numbers.Name.{Name}
use Rattle.pico_base.specs.declared.numbers.Name.TheVariants.{Proc, Msg, Sem}
use Rattle.pico_base.specs.declared.reply.Errno.{Errno}
use Rattle.pico_base.specs.declared.reply.Reply.TheVariants as replies
use Rattle.pico_base.specs.declared.script.Script.{Script}
use Rattle.rpc_frame.specs.declared.frame.Frame.TheVariants as frames
use Rattle.kernel_model.specs.Queue.{empty_queue}
use Rattle.kernel_model.specs.SemaphoreSet.{SemaphoreSet, new_set}
use Rattle.kernel_model.specs.Row.{Row}
use Rattle.kernel_model.specs.Fitting.{child_vars}
use Rattle.std.specs.Prelude.{Result, Ok, Err}
use Rattle.waiting_model.specs.Waiters.{unawaited}
use Rattle.node_model.specs.Kinds.{for_kind, with_kind, name_of, put_named}
use Rattle.node_model.specs.Directory.{Directory, has_more, upcoming, with_range, is_known, place_name}
use Rattle.node_model.specs.Leases.{lease_of, refill}
use Rattle.node_model.specs.Caller.{caller_place}
use Rattle.node_model.specs.Bodies.{Body, AQueue, ASet}
use Rattle.node_model.specs.Spelling.{pack}
use Rattle.node_model.specs.Serving.{parent_body, child_body}
use Rattle.world_model.specs.Node.{Node, is_leader, own_row, asked_here}
use Rattle.world_model.specs.Step.{Step, with_node, with_deeds, with_directory, send, carry_out}

-- ---- numbers

-- a number, and the node without it
pub record Taken : Type 0 where
  pub number : ℕ
  pub node : Node

abbrev pub take_first : Node → Kind → List ℕ → Option Taken
take_first n kind [] = None
take_first n kind (number ∷ numbers) =
    Some (record { number = number; node = record n { leases = with_kind n.leases kind numbers } })

-- the leader gives itself the next range, none of whose numbers may be known as a name
abbrev pub knows_any : Directory → Kind → List ℕ → Bool
knows_any d kind numbers = list_any (λ number. is_known d (name_of kind number)) numbers

abbrev pub with_next_range : Node → Kind → Node
with_next_range n kind =
    with_directory (record n { leases = refill n.leases kind (upcoming n.leader.directory kind) })
    (with_range n.leader.directory kind 1)

abbrev pub take_from_next : Node → Kind → Option Taken
take_from_next n kind =
    let d : Directory = n.leader.directory
    in if has_more d kind && not (knows_any d kind (lease_of (upcoming d kind)))
    then take_first (with_next_range n kind) kind (lease_of (upcoming d kind))
    else None

-- the next number of a node's lease; where the leader's is used up, the first of its next range, if there is one
abbrev pub take_from : Node → Kind → List ℕ → Option Taken
take_from n kind (number ∷ numbers) = take_first n kind (number ∷ numbers)
take_from n kind [] = if is_leader n then take_from_next n kind else None

abbrev pub take_number : Node → Kind → Option Taken
take_number n kind = take_from n kind (for_kind n.leases kind)

-- ---- what a number is given to

-- the leader places a new name itself, and any other maker tells it
abbrev pub tell_place : Step → Name → ℕ → Step
tell_place step name at =
    if is_leader step.node
    then with_node step (with_directory step.node (place_name step.node.leader.directory name at))
    else send step 1 (frames.Placed name at)

-- a fork: the child's deed and its variables go to its node
abbrev pub fork_with : Script → Step → Call → ℕ → ℕ → Row → Step
fork_with script step call block child row =
    let n : Node = step.node
    in let vars = child_vars (caller_place script n.number n.caller)
    in let held : Step = with_deeds step (put_named n.deeds (Proc n.pid) (parent_body row child))
    in let done : Step = carry_out script held (asked_here n call) (replies.Num child)
    in tell_place (send done block (frames.Checkpoint child n.pid (pack (Proc child) (child_body row)) vars))
    (Proc child) block

-- a new queue or set is held where it is made
abbrev pub make_object : Script → Step → Call → Name → Body → ℕ → Step
make_object script step call name body number =
    let n : Node = step.node
    in let held : Step = with_deeds step (put_named n.deeds name body)
    in tell_place (carry_out script held (asked_here n call) (replies.Num number)) name n.number

abbrev pub make_set : Script → Step → Call → ℕ → Result SemaphoreSet Errno → Option Step
make_set script step call number (Err e) = None
make_set script step call number (Ok set) =
    Some (make_object script step call (Sem number) (ASet (unawaited set)) number)

-- the call under way is carried out with this number
abbrev pub make_with : Script → Step → Call → ℕ → Option Step
make_with script step (calls.Fork block) number =
    option_map (fork_with script step (calls.Fork block) block number) (own_row step.node)
make_with script step (calls.MsgGet key create excl) number =
    Some (make_object script step (calls.MsgGet key create excl) (Msg number) (AQueue (unawaited empty_queue)) number)
make_with script step (calls.SemGet key count create excl) number =
    make_set script step (calls.SemGet key count create excl) number (new_set count)
make_with script step call number = None

abbrev pub make_taken : Script → Step → Call → Taken → Option Step
make_taken script step call t = make_with script (with_node step t.node) call t.number

abbrev pub make : Script → Step → Call → Kind → Option Step
make script step call kind = option_and_then (make_taken script step call) (take_number step.node kind)
