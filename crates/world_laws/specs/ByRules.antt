-- What an event would lead to if each frame were one that may come: by the rules of frames alone. Where the machine has
-- a step, it is this one; and in the worlds of a run each frame may come.
use Rattle.std.specs.Prelude.{Option}
use Rattle.pico_base.specs.declared.script.Event.{Event}
use Rattle.pico_base.specs.declared.script.Event.TheVariants as events
use Rattle.world_model.specs.Turn.{take_by_rules}
use Rattle.world_model.specs.World.{World, node_at, runs_at, stream, takes_with}

abbrev pub step_by_rules : World → Event → Option World
step_by_rules w (events.Run p) = runs_at w p (node_at w p)
step_by_rules w (events.Take p from) = takes_with take_by_rules w p from (node_at w p) (stream w p from)
