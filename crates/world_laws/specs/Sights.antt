-- What there is to see in a world, by node and by stream. A number that is no node's shows an unborn node.
use Rattle.std.specs.Prelude.{ℕ, Bool, true, false, ◌&&◌, List, [], if◌then◌else◌, None}
use Rattle.std.specs.Option.{unwrap_or}
use Rattle.node_model.specs.Directory.{Directory}
use Rattle.world_model.specs.Node.{Node, Stage, Unborn, unborn_node}
use Rattle.rpc_frame.specs.declared.frame.Frame.{Frame}
use Rattle.world_model.specs.World.{World, node_at, stream, is_number}

abbrev pub node_of : World → ℕ → Node
node_of w p = unwrap_or (if is_number p then node_at w p else None) (unborn_node p)

-- the frames on their way to a node from another; none where a number is no node's
abbrev pub frames_to : World → ℕ → ℕ → List Frame
frames_to w to sender = if is_number to && is_number sender then stream w to sender else []

abbrev pub directory_of : World → Directory
directory_of w =
    let first : Node = node_of w 1
    in first.leader.directory

abbrev pub stage_of : World → ℕ → Stage
stage_of w p =
    let n : Node = node_of w p
    in n.stage

abbrev pub is_born_stage : Stage → Bool
is_born_stage Unborn = false
is_born_stage _ = true

abbrev pub is_born_in : World → ℕ → Bool
is_born_in w p = is_born_stage (stage_of w p)
