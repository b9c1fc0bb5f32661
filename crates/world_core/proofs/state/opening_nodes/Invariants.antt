use Rattle.std.proofs.Common.{◌≡◌, map, Some}
use Rattle.world_model.specs.Node.{opening_node}
use Rattle.world_model.specs.World.{numbers}
use Rattle.world_core.proofs.state.opening_nodes.Given as goal

abbrev pub invariant-loop-number : goal.invariant-loop-number
invariant-loop-number l = l.nodes.items ≡ map Some (map opening_node (numbers 1 l.number))
