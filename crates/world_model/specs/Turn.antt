-- A node takes a frame: where it may come at all, by the rule of its kind. Where that doesn't apply there is no step.
use Rattle.std.specs.Prelude.{ℕ, Bool, true, ◌&&◌, not, nat_lt, length, if◌then◌else◌, Option, None}
use Rattle.std.specs.List.{list_any}
use Rattle.std.specs.Option.{option_map}
use Rattle.pico_base.specs.declared.script.Script.{Script}
use Rattle.rpc_frame.specs.declared.frame.Frame.{Frame}
use Rattle.rpc_frame.specs.declared.frame.Frame.TheVariants as frames
use Rattle.frame_bytes.specs.Limits.{is_frame}
use Rattle.node_model.specs.Leases.{leases_hold}
use Rattle.world_model.specs.Node.{Node}
use Rattle.world_model.specs.Step.{Step}
use Rattle.world_model.specs.Ends.{names_in}
use Rattle.world_model.specs.Calls.{take_ask, take_bounce, take_forward, take_request, take_not_owner, take_answer}
use Rattle.world_model.specs.Ranges.{take_lease_ask, take_lease, take_placed}
use Rattle.world_model.specs.Moves.{take_suggest, take_recall, take_give_back, take_grant}
use Rattle.world_model.specs.Lives.{take_checkpoint, take_leaving, take_recall_all, take_left, take_exit}
use Rattle.world_model.specs.Strikes.{strike, take_cancel}

-- ---- which frames may come, whatever sends them

-- What the node sends then is within the limits of frames: a call that the leader is asked for still fits a frame as it
-- is sent on, which names the caller's node besides, and who hands over has no more than 255 deeds of processes.
abbrev pub has_room_for : Node → ℕ → Frame → Bool
has_room_for n from (frames.Ask ticket pid call) =
    is_frame (frames.Forward (record { caller = from; ticket = ticket; pid = pid; call = call }))
has_room_for n from frames.RecallAll = nat_lt (length n.deeds.processes) 256
has_room_for n from frame = true

-- No process comes whose number this node has still to give.
abbrev pub is_given_out : Node → Frame → Bool
is_given_out n (frames.Checkpoint pid parent deed vars) = not (leases_hold n.leases deed.name)
is_given_out n (frames.Left parcel) = not (list_any (leases_hold n.leases) (names_in parcel))
is_given_out n frame = true

-- The frame is within the limits of frames, and all of this.
unfoldable pub may_come : Node → ℕ → Frame → Bool
may_come n from frame = is_frame frame && (has_room_for n from frame && is_given_out n frame)

-- ---- and what it does

-- the rule of its kind
abbrev pub take_by_kind : Script → Node → ℕ → Frame → Option Step
take_by_kind script n from (frames.Ask ticket pid call) = take_ask script n from ticket pid call
take_by_kind script n from (frames.Request ticket pid call) = take_request script n from ticket pid call
take_by_kind script n from (frames.Forward asked) = take_forward script n from asked
take_by_kind script n from (frames.Bounce asked) = take_bounce script n from asked
take_by_kind script n from (frames.Answer ticket reply) = take_answer script n from ticket reply
take_by_kind script n from (frames.NotOwner ticket) = take_not_owner script n ticket
take_by_kind script n from (frames.LeaseAsk kind) = take_lease_ask n from kind
take_by_kind script n from (frames.Lease kind first) = take_lease script n from kind first
take_by_kind script n from (frames.Placed name node) = take_placed script n from name node
take_by_kind script n from (frames.Checkpoint pid parent deed vars) = take_checkpoint script n from pid parent deed vars
take_by_kind script n from (frames.Suggest name node) = take_suggest script n from name node
take_by_kind script n from (frames.Recall name) = take_recall n from name
take_by_kind script n from (frames.GiveBack deed) = take_give_back script n from deed
take_by_kind script n from (frames.Grant deed) = take_grant script n from deed
take_by_kind script n from (frames.Leaving pid parent parent_node) = take_leaving script n from pid parent parent_node
take_by_kind script n from frames.RecallAll = take_recall_all n from
take_by_kind script n from (frames.Left parcel) = take_left script n from parcel
take_by_kind script n from (frames.ExitTo parcel) = take_exit script n from parcel
take_by_kind script n from (frames.Cancel asked) = take_cancel script n asked

-- The rule of its kind, and last of all the strike. What a process starts itself needs none: a signal that it sends
-- itself finds no call of its under way once that has its reply.
abbrev pub take_by_rules : Script → Node → ℕ → Frame → Option Step
take_by_rules script n from frame = option_map (strike script) (take_by_kind script n from frame)

-- the step of a frame that comes
abbrev pub take_frame : Script → Node → ℕ → Frame → Option Step
take_frame script n from frame = if may_come n from frame then take_by_rules script n from frame else None
