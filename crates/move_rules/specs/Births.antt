-- The deed of a new process.
use Rattle.std.specs.Prelude.{Bool, false, Option, Some, None}
use Rattle.pico_base.specs.declared.numbers.Name.{Name}
use Rattle.node_model.specs.Kinds.{none_named, put_named}
use Rattle.node_model.specs.Caller.{Caller}
use Rattle.node_model.specs.Bodies.{Body, Living}
use Rattle.world_model.specs.Node.{Node}
use Rattle.world_model.specs.Lives.{is_new_row}

abbrev pub is_of_new_process : Body → Bool
is_of_new_process (Living row) = is_new_row row
is_of_new_process body = false

-- what is read is a new process's body
abbrev pub is_read_as_new : Option Body → Bool
is_read_as_new None = false
is_read_as_new (Some body) = is_of_new_process body

-- this alone is held
abbrev pub with_only : Node → Name → Body → Node
with_only n name body = record n { deeds = put_named none_named name body }

abbrev pub with_caller : Node → Caller → Node
with_caller n caller = record n { caller = caller }
