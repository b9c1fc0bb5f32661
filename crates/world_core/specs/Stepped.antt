-- The world after an event.
use Rattle.std.specs.Prelude.{◌≡◌, Option, Some}
use Rattle.pico_base.specs.declared.script.Event.{Event}
use Rattle.world_model.specs.World.{World, step}

abbrev pub IsStepped : Option World → Event → Option World → Type 0
IsStepped old e new = (w : World) × (next : World) × (old ≡ Some w) × (new ≡ Some next) × (step w e ≡ Some next)
