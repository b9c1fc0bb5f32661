-- A node takes a frame about a queue or set that moves.
use Rattle.std.specs.Prelude.{ℕ, Bool, false, not, ◌&&◌, nat_eq, if◌then◌else◌, Option, Some, None}
use Rattle.std.specs.List.{list_all}
use Rattle.std.specs.Option.{option_map, option_and_then}
use Rattle.pico_base.specs.declared.numbers.Name.{Name}
use Rattle.pico_base.specs.declared.script.Script.{Script}
use Rattle.rpc_frame.specs.declared.deed.PackedDeed.{PackedDeed}
use Rattle.rpc_frame.specs.declared.frame.Frame.TheVariants as frames
use Rattle.node_model.specs.Kinds.{is_object, get_named, put_named}
use Rattle.node_model.specs.Directory.{Directory, Place, At, Coming, place_of, stays, is_coming, held_for, bound_for, arrive}
use Rattle.node_model.specs.Leases.{leases_hold}
use Rattle.node_model.specs.Bodies.{Body, waiters_of}
use Rattle.node_model.specs.Spelling.{pack, read_deed}
use Rattle.world_model.specs.Node.{Node, is_leader, holds, is_node}
use Rattle.world_model.specs.Step.{Step, step_to, with_directory, send}
use Rattle.world_model.specs.Serving.{without_deed}
use Rattle.world_model.specs.Routes.{recall_from}
use Rattle.world_model.specs.Releases.{release}
use Rattle.world_model.specs.Calls.{is_to_leader, is_from_leader}

-- the Suggest rule: the name is asked back for the node, if it is still at the one that suggests it and the node stays
abbrev pub is_at : ℕ → Option Place → Bool
is_at node None = false
is_at node (Some (At owner)) = nat_eq owner node
is_at node (Some (Coming to items)) = false

abbrev pub suggest : Node → ℕ → Name → ℕ → Step
suggest n from name to =
    if is_at from (place_of n.leader.directory name) && stays n.leader.directory to
    then recall_from (step_to n) name (Some to) from
    else step_to n

abbrev pub take_suggest : Script → Node → ℕ → Name → ℕ → Option Step
take_suggest script n from name to =
    if is_to_leader n from && (is_node script to && is_object name) then Some (suggest n from name to) else None

-- the Recall rule: the deed goes back to the leader
abbrev pub give_back : Node → Name → Body → Step
give_back n name body = send (step_to (without_deed n name)) 1 (frames.GiveBack (pack name body))

abbrev pub take_recall : Node → ℕ → Name → Option Step
take_recall n from name =
    if is_from_leader n from && is_object name then option_map (give_back n name) (get_named n.deeds name) else None

-- a deed that comes is of a queue or set that isn't here and whose number isn't still to be given out
abbrev pub is_new_here : Node → Name → Bool
is_new_here n name = is_object name && (not (holds n name) && not (leases_hold n.leases name))

abbrev pub keep : Node → Name → Body → Node
keep n name body = record n { deeds = put_named n.deeds name body }

-- those who wait there have nodes of the script
abbrev pub has_nodes : Script → Body → Bool
has_nodes script body = list_all (λ w. is_node script w.caller) (waiters_of body)

-- the GiveBack rule: the deed goes on to the node that it is bound for, if that stays, or the leader keeps it; then
-- what was held for it is released
abbrev pub goes_on_to : Directory → Option ℕ → Option ℕ
goes_on_to d None = None
goes_on_to d (Some to) = if not (nat_eq to 1) && stays d to then Some to else None

abbrev pub pass_on : Node → Name → Body → Option ℕ → Step
pass_on n name body None = step_to (with_directory (keep n name body) (arrive n.leader.directory name 1))
pass_on n name body (Some to) =
    send (step_to (with_directory n (arrive n.leader.directory name to))) to (frames.Grant (pack name body))

abbrev pub come_back : Script → Node → Name → Body → Option Step
come_back script n name body =
    let d : Directory = n.leader.directory
    in if has_nodes script body
    then release script (held_for d name) (pass_on n name body (goes_on_to d (bound_for d name)))
    else None

abbrev pub take_give_back : Script → Node → ℕ → PackedDeed → Option Step
take_give_back script n from deed =
    if is_leader n && (is_coming n.leader.directory deed.name && is_new_here n deed.name)
    then option_and_then (come_back script n deed.name) (read_deed deed)
    else None

-- the Grant rule
abbrev pub receive_deed : Script → Node → Name → Body → Option Step
receive_deed script n name body = if has_nodes script body then Some (step_to (keep n name body)) else None

abbrev pub take_grant : Script → Node → ℕ → PackedDeed → Option Step
take_grant script n from deed =
    if is_from_leader n from && is_new_here n deed.name
    then option_and_then (receive_deed script n deed.name) (read_deed deed)
    else None
