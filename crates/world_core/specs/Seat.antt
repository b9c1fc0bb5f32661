-- A node of a world and what is on its way to it.
use Rattle.std.specs.Prelude.{◌≡◌, ℕ, ◌-◌, ◌≤◌, List, [], get_or, length, Option, Some}
use Rattle.rpc_frame.specs.declared.frame.Frame.{Frame}
use Rattle.world_model.specs.Node.{Node}
use Rattle.world_model.specs.World.{World, size, node_at}

pub record IsSeat (w : World) (p : ℕ) (found : Option Node) (row : List (List Frame)) : Type 0 where
  pub number : 1 ≤ p
  pub few : size w ≤ 32
  pub node : Node
  pub is_node : found ≡ Some node
  pub here : node_at w p ≡ Some node
  pub is_row : get_or w.streams (p - 1) [] ≡ row
  pub width : length row ≡ size w
