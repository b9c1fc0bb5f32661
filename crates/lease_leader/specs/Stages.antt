-- The nodes that leave or have left, as a table with a stage for each node.
use Rattle.std.specs.Prelude.{ℕ, ◌+◌, List, [], ◌∷◌, Option, Some, None}
use Rattle.number_maps.specs.Maps.{Numbered}
use Rattle.node_model.specs.Directory.{Parting, IsLeaving, HasLeft}
use Rattle.lease_leader.specs.declared.partings.Stage.{Stage}
use Rattle.lease_leader.specs.declared.partings.Stage.TheVariants as stages

abbrev pub parting_of : Stage → Option Parting
parting_of stages.Stays = None
parting_of stages.Leaving = Some IsLeaving
parting_of stages.Left = Some HasLeft

abbrev pub parting_first : ℕ → Option Parting → Numbered Parting → Numbered Parting
parting_first node None rest = rest
parting_first node (Some parting) rest = (node, parting) ∷ rest

-- the nodes that part, of those from a number on
abbrev pub partings_from : ℕ → List Stage → Numbered Parting
partings_from node [] = []
partings_from node (stage ∷ table) = parting_first node (parting_of stage) (partings_from (node + 1) table)
