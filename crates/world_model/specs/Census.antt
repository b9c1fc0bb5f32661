-- How many owners a name has: the nodes that hold its deed, the frames that bring it, and the parcels that the leader
-- holds with it.
use Rattle.std.specs.Prelude.{ℕ, ◌+◌, Bool, false, Some, cond, sum_by, count_by}
use Rattle.pico_base.specs.declared.numbers.Name.{Name}
use Rattle.rpc_frame.specs.declared.deed.PackedDeed.{PackedDeed}
use Rattle.rpc_frame.specs.declared.frame.Frame.{Frame}
use Rattle.rpc_frame.specs.declared.frame.Frame.TheVariants as frames
use Rattle.number_maps.specs.Maps.{Numbered}
use Rattle.node_model.specs.Kinds.{is_same_name}
use Rattle.node_model.specs.Directory.{Place, items_of, has_deed_of, is_parcel_with}
use Rattle.world_model.specs.Node.{holds}
use Rattle.world_model.specs.World.{World, Streams}

abbrev pub one_if : Bool → ℕ
one_if b = cond b 1 0

abbrev pub is_of : Name → PackedDeed → Bool
is_of name deed = is_same_name name deed.name

-- a frame brings the name's deed, alone or in a parcel
abbrev pub brings : Name → Frame → Bool
brings name (frames.Checkpoint pid parent deed vars) = is_of name deed
brings name (frames.GiveBack deed) = is_of name deed
brings name (frames.Grant deed) = is_of name deed
brings name (frames.Left parcel) = has_deed_of name parcel
brings name (frames.ExitTo parcel) = has_deed_of name parcel
brings name frame = false

abbrev pub holders : Name → World → ℕ
holders name w = sum_by (λ n. one_if (holds n name)) w.nodes

abbrev pub on_the_way : (Frame → Bool) → Streams → ℕ
on_the_way test streams = sum_by (λ row. sum_by (λ frames_there. count_by test frames_there) row) streams

-- the parcels with it that a node holds for the processes that it knows of, which is the leader's alone
abbrev pub parcels_with : Name → Numbered Place → ℕ
parcels_with name places = sum_by (λ e. count_by (is_parcel_with name) (items_of (Some e.1))) places

abbrev pub held_by_leader : Name → World → ℕ
held_by_leader name w = sum_by (λ n. parcels_with name n.leader.directory.places.processes) w.nodes

abbrev pub owners : Name → World → ℕ
owners name w = holders name w + (on_the_way (brings name) w.streams + held_by_leader name w)
