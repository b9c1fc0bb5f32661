-- What a schedule takes from a world, one event after another.
use Rattle.std.specs.Prelude.{◌≡◌, List, [], ◌∷◌}
use Rattle.pico_base.specs.declared.script.Event.{Event}
use Rattle.world_model.specs.World.{World}
use Rattle.world_model.specs.Schedule.{Schedule, Chooses, schedule_after}

-- these events are what the schedule takes from a world, and they lead to another world and schedule
abbrev pub Takes : World → Schedule → List Event → World → Schedule → Type 0
Takes w s [] now at = (w ≡ now) × (s ≡ at)
Takes w s (e ∷ es) now at = Chooses w s e (λ next. Takes next (schedule_after s e) es now at)
