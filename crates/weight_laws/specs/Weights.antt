-- What is still to happen in a world, as a number that each event lowers. A call that isn't started weighs 32, which is
-- more than all that it can set off. A call under way weighs by its place, so that the frame it is in weighs nothing.
use Rattle.std.specs.Prelude.{◌≡◌, ◌<◌, ℕ, ◌+◌, ◌-◌, ◌*◌, Bool, false, not, nat_eq, nat_lt, List, [], ◌∷◌, length, drop, if◌then◌else◌, Option, Some, None, is_some, sum_by, count_by}
use Rattle.std.specs.List.{list_any}
use Rattle.pico_base.specs.declared.call.Home.{Home}
use Rattle.pico_base.specs.declared.call.Home.TheVariants as homes
use Rattle.pico_base.specs.declared.script.Event.{Event}
use Rattle.pico_base.specs.declared.script.Script.{Script}
use Rattle.pico_base.specs.Home.{home_of}
use Rattle.rpc_frame.specs.declared.frame.Frame.{Frame}
use Rattle.rpc_frame.specs.declared.frame.Frame.TheVariants as frames
use Rattle.number_maps.specs.Maps.{Numbered}
use Rattle.kernel_model.specs.Script.{calls_in}
use Rattle.node_model.specs.declared.held.Held.{Held}
use Rattle.node_model.specs.declared.held.Held.TheVariants.{Request, Ending}
use Rattle.waiting_model.specs.Calls.{is_withdrawal}
use Rattle.node_model.specs.Caller.{Caller, lines_of, to_cancel}
use Rattle.node_model.specs.Directory.{Directory, Place, At, Coming, is_known, is_parcel, place_of}
use Rattle.world_model.specs.Census.{one_if}
use Rattle.world_model.specs.Node.{Node, Stage, Unborn, Living, Leaving, Left, Over, is_leader}
use Rattle.world_model.specs.Step.{Step}
use Rattle.world_model.specs.World.{World, Streams, node_count, numbers}
use Rattle.world_laws.specs.ByRules.{step_by_rules}
use Rattle.world_laws.specs.Places.{CallPlace, Idle, AsksLease, HasLease, InAsk, InRequest, InNotOwner, SentByPlace, SentByRange, InBounce, IsHeld, IsInHand, Parked, Waits, InAnswer, Ends}

-- ---- frames

-- a call is counted at its place, and not at the frame that it is in
abbrev pub frame_weight : Frame → ℕ
frame_weight (frames.Placed name node) = 1
frame_weight (frames.Checkpoint pid parent deed vars) = 1
frame_weight (frames.Suggest name node) = 5
frame_weight (frames.Recall name) = 1
frame_weight (frames.GiveBack deed) = 1
frame_weight (frames.Grant deed) = 2
frame_weight (frames.Leaving pid parent parent_node) = 4
frame_weight frames.RecallAll = 3
frame_weight (frames.Left parcel) = 2
frame_weight (frames.ExitTo parcel) = 1
frame_weight frame = 0

-- a withdrawal weighs more on its way to the leader than from there
abbrev pub cancel_weight : ℕ → Frame → ℕ
cancel_weight to (frames.Cancel asked) = if nat_lt 1 to then 3 else 4
cancel_weight to frame = 0

abbrev pub stream_weight : List Frame → ℕ
stream_weight there = sum_by frame_weight there

abbrev pub row_weight : List (List Frame) → ℕ
row_weight row = sum_by stream_weight row

abbrev pub streams_weight : Streams → ℕ
streams_weight streams = sum_by row_weight streams

abbrev pub send_weight : ℕ × Frame → ℕ
send_weight sent = frame_weight sent.1 + cancel_weight sent.0 sent.1

-- the withdrawals on their way, by whom they go to: row k of the streams goes to node k
abbrev pub cancels_to : ℕ → List (List Frame) → ℕ
cancels_to to row = sum_by (λ there. sum_by (cancel_weight to) there) row

abbrev pub cancels_weight : ℕ → Streams → ℕ
cancels_weight to [] = 0
cancels_weight to (row ∷ rows) = cancels_to to row + cancels_weight (to + 1) rows

abbrev pub sends_weight : List (ℕ × Frame) → ℕ
sends_weight sends = sum_by send_weight sends

-- ---- calls under way

-- One that the leader has in hand is counted there.
abbrev pub call_weight : CallPlace → ℕ
call_weight Idle = 0
call_weight (AsksLease kind) = 4
call_weight (HasLease kind first) = 3
call_weight InAsk = 11
call_weight (InRequest to) = 13
call_weight (InNotOwner sender) = 12
call_weight (SentByPlace to) = 7
call_weight (SentByRange to) = 10
call_weight (InBounce sender) = 9
call_weight (IsHeld name) = 7
call_weight IsInHand = 0
call_weight Parked = 0
call_weight (Waits name) = 6
call_weight (InAnswer sender reply) = 1
call_weight Ends = 0

abbrev pub call_at : (ℕ → CallPlace) → ℕ → ℕ
call_at call p = call_weight (call p)

abbrev pub calls_weight : Script → (ℕ → CallPlace) → ℕ
calls_weight script call = sum_by (call_at call) (numbers 1 (node_count script))

-- ---- nodes

-- the tries of the lines left, without those made and the one under way
abbrev pub left_to_start : Script → ℕ → Caller → ℕ
left_to_start script number c =
    sum_by (λ line. line.tries) (drop c.line (lines_of script number)) - (c.tried + one_if (is_some c.under_way))

-- the calls that a node's process hasn't started
abbrev pub to_start_in : Script → ℕ → Caller → Stage → ℕ
to_start_in script number c Unborn = sum_by (λ line. line.tries) (lines_of script number)
to_start_in script number c Living = left_to_start script number c
to_start_in script number c Leaving = 0
to_start_in script number c Left = 0
to_start_in script number c Over = 0

abbrev pub to_start : Script → Node → ℕ
to_start script n = to_start_in script n.number n.caller n.stage

-- a queue or a set at another node than the leader has still to come back
abbrev pub table_weight : Node → ℕ
table_weight n = if is_leader n then 0 else length n.deeds.queues + length n.deeds.sets

abbrev pub destination_weight : Option ℕ → ℕ
destination_weight None = 0
destination_weight (Some to) = 3

-- where a name is bound for, and the parcels that are held for it
abbrev pub is_held_cancel : Held → Bool
is_held_cancel (Request asked) = is_withdrawal asked.call
is_held_cancel (Ending parcel) = false

abbrev pub place_weight : Place → ℕ
place_weight (At node) = 0
place_weight (Coming to items) =
    destination_weight to + (count_by is_parcel items + 3 * count_by is_held_cancel items)

abbrev pub places_weight : Numbered Place → ℕ
places_weight places = sum_by (λ e. place_weight e.1) places

abbrev pub directory_weight : Directory → ℕ
directory_weight d = places_weight d.places.processes + (places_weight d.places.queues + places_weight d.places.sets)

-- a call that a signal may still interrupt has its withdrawal ahead of it
abbrev pub strike_weight : Caller → ℕ
strike_weight c = if is_some (to_cancel c) then 4 else 0

abbrev pub node_weight : Script → Node → ℕ
node_weight script n =
    32 * to_start script n + (strike_weight n.caller + (table_weight n + directory_weight n.leader.directory))

-- ---- the world

-- a world, with the calls under way in these places
abbrev pub weight : Script → World → (ℕ → CallPlace) → ℕ
weight script w call =
    sum_by (node_weight script) w.nodes
    + (streams_weight w.streams + (cancels_weight 1 w.streams + calls_weight script call))

-- a script's calls: the tries of its lines, with the `exit` that a block's end stands for
abbrev pub calls_of : Script → ℕ
calls_of script = sum_by calls_in script.blocks

-- whatever world the event leads to weighs less, with the calls in those places then
abbrev pub Falls : Script → World → Event → (ℕ → CallPlace) → (ℕ → CallPlace) → Type 0
Falls script w e call call_after =
    (next : World) → step_by_rules w e ≡ Some next → weight script next call_after < weight script w call

-- ---- the middle of an event

-- what a call in the leader's hand may still cost, which is less where its name is known
abbrev pub cost_if : Bool → ℕ
cost_if known = if known then 7 else 10

abbrev pub routing_weight : Directory → Home → ℕ
routing_weight d (homes.At name) = cost_if (is_known d name)
routing_weight d (homes.Removal name) = cost_if (is_known d name)
routing_weight d home = 7

abbrev pub item_weight : Directory → Held → ℕ
item_weight d (Request asked) =
    if is_withdrawal asked.call then 3 else routing_weight d (home_of asked.pid asked.call)
item_weight d (Ending parcel) = 1

-- a removal for which a name has to be asked back
abbrev pub is_away : Option Place → Bool
is_away None = false
is_away (Some (At node)) = not (nat_eq node 1)
is_away (Some (Coming to items)) = false

abbrev pub removes_away : Directory → Home → Bool
removes_away d (homes.Removal name) = is_away (place_of d name)
removes_away d home = false

abbrev pub asks_back : Directory → Held → Bool
asks_back d (Request asked) = removes_away d (home_of asked.pid asked.call)
asks_back d (Ending parcel) = false

-- the first such removal asks it back, and the others are held
abbrev pub hand_weight : Directory → List Held → ℕ
hand_weight d hand = sum_by (item_weight d) hand + one_if (list_any (asks_back d) hand)

-- what the leader's step has come to, with these items in hand
abbrev pub middle_weight : Script → Step → List Held → (ℕ → CallPlace) → ℕ
middle_weight script s hand call =
    let n : Node = s.node
    in node_weight script n
    + (sends_weight s.sends + (hand_weight n.leader.directory hand + calls_weight script call))
