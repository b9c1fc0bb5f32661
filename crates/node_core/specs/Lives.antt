-- The end of a node's life.
use Rattle.std.specs.Prelude.{Bool, true, false}
use Rattle.world_model.specs.Node.{Node, Stage, Left}

abbrev pub is_left : Stage → Bool
is_left Left = true
is_left _ = false

-- its process has ended, and it has handed over all that it held
abbrev pub has_left : Node → Bool
has_left n = is_left n.stage
