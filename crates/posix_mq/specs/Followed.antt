-- Where the processes of a history are, as the code moves them.
use Rattle.std.specs.Prelude.{ℕ, Option, Some, None}
use Rattle.pico_base.specs.declared.call.Call.{Call}
use Rattle.pico_base.specs.declared.call.Call.TheVariants.{Fork}
use Rattle.pico_base.specs.declared.reply.Reply.{Reply}
use Rattle.pico_base.specs.declared.reply.Reply.TheVariants.{Num}
use Rattle.pico_base.specs.declared.script.Script.{Script}
use Rattle.number_maps.specs.Maps.{put}
use Rattle.kernel_model.specs.Fitting.{Place, block_at, block_place, child_vars}
use Rattle.waiting_model.specs.Fitting.{Places, Progress, at_place, after_entry}

-- the process that a call forks with this reply, and its number
abbrev pub forked_by : Script → Place → Call → Option Reply → Option (ℕ × Progress)
forked_by script parent (Fork block) (Some (Num child)) =
    Some (child, at_place (block_place (block_at script block) (child_vars parent)))
forked_by script parent call own = None

abbrev pub with_forked : Places → Option (ℕ × Progress) → Places
with_forked places None = places
with_forked places (Some child) = put places child.0 child.1

-- a process that is there goes on
abbrev pub moved_at : Places → ℕ → Call → Option Reply → Option Progress → Places
moved_at places pid call own None = places
moved_at places pid call own (Some p) = put places pid (after_entry call own p)
