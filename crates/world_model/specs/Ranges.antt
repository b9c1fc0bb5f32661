-- A node takes a frame about new numbers.
use Rattle.std.specs.Prelude.{ℕ, ◌+◌, Bool, false, not, ◌&&◌, ◌||◌, nat_eq, nat_lt, if◌then◌else◌, Option, Some, None}
use Rattle.std.specs.List.{list_any}
use Rattle.std.specs.Option.{option_and_then}
use Rattle.pico_base.specs.declared.call.Call.{Call}
use Rattle.pico_base.specs.declared.numbers.Kind.{Kind}
use Rattle.pico_base.specs.declared.numbers.Kind.TheVariants as kinds
use Rattle.pico_base.specs.declared.numbers.Name.{Name}
use Rattle.pico_base.specs.declared.script.Script.{Script}
use Rattle.rpc_frame.specs.declared.frame.Frame.TheVariants as frames
use Rattle.kernel_model.specs.Numbers.{is_u32}
use Rattle.kernel_model.specs.Row.{lists}
use Rattle.node_model.specs.Kinds.{for_kind, name_of}
use Rattle.node_model.specs.Directory.{has_more, upcoming, with_range, place_name}
use Rattle.node_model.specs.Leases.{is_used_up, lease_of, refill, leases_hold, takes_number}
use Rattle.node_model.specs.Bodies.{Body, Living}
use Rattle.world_model.specs.Node.{Node, holds, is_node}
use Rattle.world_model.specs.Step.{Step, step_to, with_directory, send}
use Rattle.world_model.specs.Numbers.{make}
use Rattle.world_model.specs.Calls.{is_to_leader}

-- the LeaseAsk rule: the next range of the kind is the asking node's
abbrev pub take_lease_ask : Node → ℕ → Kind → Option Step
take_lease_ask n from kind =
    if is_to_leader n from && has_more n.leader.directory kind
    then Some (send (step_to (with_directory n (with_range n.leader.directory kind from))) from
    (frames.Lease kind (upcoming n.leader.directory kind)))
    else None

-- the Lease rule: the call under way takes the first number. None of the numbers may name what is here already.
abbrev pub lists_child : ℕ → ℕ × Body → Bool
lists_child child (pid, Living row) = lists row.family child
lists_child child (pid, body) = false

abbrev pub is_listed_here : Node → Kind → ℕ → Bool
is_listed_here n kinds.Proc number = list_any (lists_child number) n.deeds.processes
is_listed_here n kind number = false

abbrev pub is_there : Node → Kind → ℕ → Bool
is_there n kind number = holds n (name_of kind number) || is_listed_here n kind number

abbrev pub may_lease : Node → Kind → ℕ → Bool
may_lease n kind first =
    is_used_up (for_kind n.leases kind)
    && (nat_lt 0 first && (is_u32 (first + 7) && not (list_any (is_there n kind) (lease_of first))))

abbrev pub go_on_with : Script → Node → Kind → ℕ → Call → Option Step
go_on_with script n kind first call =
    if takes_number kind call
    then make script (step_to (record n { leases = refill n.leases kind first })) call kind
    else None

abbrev pub take_lease : Script → Node → ℕ → Kind → ℕ → Option Step
take_lease script n from kind first =
    if nat_eq from 1 && may_lease n kind first
    then option_and_then (go_on_with script n kind first) n.caller.under_way
    else None

-- the Placed rule
abbrev pub take_placed : Script → Node → ℕ → Name → ℕ → Option Step
take_placed script n from name node =
    if is_to_leader n from && (is_node script node && (not (nat_eq node 1) && not (leases_hold n.leases name)))
    then Some (step_to (with_directory n (place_name n.leader.directory name node)))
    else None
