-- A node takes a frame about a process's life.
use Rattle.std.specs.Prelude.{ℕ, Bool, true, false, not, ◌&&◌, ◌||◌, nat_eq, nat_lt, [], ◌∷◌, length, fold, if◌then◌else◌, Option, Some, None, is_none}
use Rattle.std.specs.List.{list_all, list_any}
use Rattle.std.specs.Option.{option_and_then}
use Rattle.pico_base.specs.declared.call.Call.{Call}
use Rattle.pico_base.specs.declared.call.Call.TheVariants as calls
use Rattle.pico_base.specs.declared.numbers.Name.{Name}
use Rattle.pico_base.specs.declared.numbers.Name.TheVariants.{Proc}
use Rattle.pico_base.specs.declared.script.Block.{Block}
use Rattle.pico_base.specs.declared.script.Script.{Script}
use Rattle.rpc_frame.specs.declared.deed.PackedDeed.{PackedDeed}
use Rattle.rpc_frame.specs.declared.deed.Parcel.{Parcel}
use Rattle.rpc_frame.specs.declared.frame.Frame.{Frame}
use Rattle.rpc_frame.specs.declared.frame.Frame.TheVariants as frames
use Rattle.number_maps.specs.Maps.{Numbered}
use Rattle.kernel_model.specs.Row.{Row}
use Rattle.kernel_model.specs.Script.{Vars}
use Rattle.kernel_model.specs.Fitting.{block_at}
use Rattle.node_model.specs.declared.held.Held.TheVariants.{Ending}
use Rattle.node_model.specs.Kinds.{none_named, put_named, is_same_name}
use Rattle.node_model.specs.Directory.{Directory, is_known, is_coming, is_in_parcel, place_name, stays, is_leaving, with_leaving, with_left}
use Rattle.node_model.specs.Leases.{leases_hold}
use Rattle.node_model.specs.Caller.{new_caller}
use Rattle.node_model.specs.Bodies.{Body, Living as LivingBody}
use Rattle.node_model.specs.Spelling.{read_deed}
use Rattle.node_model.specs.Parcels.{give_all, fitting_bodies}
use Rattle.world_model.specs.Node.{Node, Living, Left, is_leader, is_unborn, is_leaving_stage, is_node}
use Rattle.world_model.specs.Step.{Step, step_to, with_directory, send}
use Rattle.world_model.specs.Ends.{names_in, exit_here}
use Rattle.world_model.specs.Releases.{release}
use Rattle.world_model.specs.Calls.{is_to_leader, is_from_leader}

-- ---- birth

-- the Checkpoint rule: the node is born, as the process that its block is forked by
abbrev pub names_block : ℕ → Call → Bool
names_block block (calls.Fork to) = nat_eq to block
names_block block call = false

abbrev pub forks_in : ℕ → Option Block → Bool
forks_in block None = false
forks_in block (Some b) = list_any (λ line. names_block block line.call) b.lines

abbrev pub is_forked_by : Script → ℕ → ℕ → Bool
is_forked_by script from block = forks_in block (block_at script from)

abbrev pub is_of_process : ℕ → Name → Bool
is_of_process pid name = is_same_name (Proc pid) name

abbrev pub is_new_row : Row → Bool
is_new_row row = is_none row.signals.doom && (nat_eq (length row.family.living) 0 && nat_eq (length row.family.ended) 0)

abbrev pub be_born : Node → ℕ → ℕ → ℕ → Vars → Body → Node
be_born n from pid parent vars body =
    record n {
      stage = Living;
      pid = pid;
      parent = parent;
      parent_node = from;
      caller = new_caller vars;
      deeds = put_named none_named (Proc pid) body;
    }

abbrev pub born_with : Node → ℕ → ℕ → ℕ → Vars → Body → Option Step
born_with n from pid parent vars (LivingBody row) =
    if is_new_row row then Some (step_to (be_born n from pid parent vars (LivingBody row))) else None
born_with n from pid parent vars body = None

abbrev pub take_checkpoint : Script → Node → ℕ → ℕ → ℕ → PackedDeed → Vars → Option Step
take_checkpoint script n from pid parent deed vars =
    if is_unborn n.stage && (is_forked_by script from n.number && is_of_process pid deed.name)
    then option_and_then (born_with n from pid parent vars) (read_deed deed)
    else None

-- ---- leaving

-- the Leaving rule: the process and its parent are placed where the leader didn't know them, what is at the node is on
-- its way, and the node is asked for all that it holds
abbrev pub place_family : Directory → ℕ → ℕ → ℕ → ℕ → Directory
place_family d node pid parent parent_node = place_name (place_name d (Proc parent) parent_node) (Proc pid) node

abbrev pub may_leave : Script → Node → ℕ → ℕ → ℕ → ℕ → Bool
may_leave script n from pid parent parent_node =
    stays n.leader.directory from
    && (nat_lt 0 pid && (nat_lt 0 parent && (not (nat_eq pid parent) && (is_node script parent_node
    && ((is_known n.leader.directory (Proc parent) || not (nat_eq parent_node 1))
    && (not (leases_hold n.leases (Proc parent)) && not (leases_hold n.leases (Proc pid))))))))

abbrev pub take_leaving : Script → Node → ℕ → ℕ → ℕ → ℕ → Option Step
take_leaving script n from pid parent parent_node =
    if is_to_leader n from && may_leave script n from pid parent parent_node
    then Some (send (step_to
    (with_directory n (with_leaving (place_family n.leader.directory from pid parent parent_node) from))) from
    frames.RecallAll)
    else None

-- the RecallAll rule: all deeds are handed over, with the call that ends the process
abbrev pub is_end : Call → Bool
is_end (calls.Exit status) = true
is_end (calls.Killed sig) = true
is_end call = false

abbrev pub send_to_leader : Step → Frame → Step
send_to_leader step frame = send step 1 frame

abbrev pub hand_over : Node → Call → Option Step
hand_over n call =
    let empty : Node = record n { stage = Left; deeds = none_named; watches = none_named }
    in if is_end call
    then Some (fold send_to_leader (step_to empty) (give_all n.deeds n.pid n.parent call))
    else None

abbrev pub take_recall_all : Node → ℕ → Option Step
take_recall_all n from =
    if nat_eq from 1 && is_leaving_stage n.stage then option_and_then (hand_over n) n.caller.under_way else None

-- ---- the end

-- the Left rule: the node has left, and its process's end goes to where the parent is
abbrev pub is_free_to_end : Directory → Name → Bool
is_free_to_end d name = is_coming d name && not (is_in_parcel d name)

abbrev pub may_take : Node → ℕ → Parcel → Bool
may_take n from parcel =
    is_leaving n.leader.directory from
    && (list_all (is_free_to_end n.leader.directory) (names_in parcel)
    && is_known n.leader.directory (Proc parcel.parent))

abbrev pub end_released : Script → Node → ℕ → Parcel → Numbered Body → Option Step
end_released script n from parcel bodies =
    release script (Ending parcel ∷ []) (step_to (with_directory n (with_left n.leader.directory from)))

abbrev pub take_left : Script → Node → ℕ → Parcel → Option Step
take_left script n from parcel =
    if is_leader n && may_take n from parcel
    then option_and_then (end_released script n from parcel) (fitting_bodies n.deeds parcel)
    else None

-- the ExitTo rule: the exit is carried out here
abbrev pub take_exit : Script → Node → ℕ → Parcel → Option Step
take_exit script n from parcel =
    if is_from_leader n from && not (list_any (leases_hold n.leases) (names_in parcel))
    then exit_here script (step_to n) parcel
    else None
