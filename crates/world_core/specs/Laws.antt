-- What choosing by a schedule comes to.
use Rattle.std.specs.Prelude.{◌≡◌, ℕ, ◌≤◌, None}
use Rattle.pico_base.specs.declared.script.Script.{Script}
use Rattle.world_model.specs.World.{World, size}
use Rattle.world_model.specs.Run.{IsReachableWorld, IsAtRest}
use Rattle.world_model.specs.Schedule.{Schedule, InTurn, Drawn, choice}

-- the last event was of one of so many nodes
abbrev pub IsWithin : ℕ → Schedule → Type 0
IsWithin count (InTurn last) = last ≤ count
IsWithin count (Drawn x) = Unit {0}

-- A schedule finds no event only where the world is at rest.
abbrev pub RestIsWhereNothingIsChosen : Type 0
RestIsWhereNothingIsChosen =
    (script : Script) (w : World) (schedule : Schedule) → IsReachableWorld script w → IsWithin (size w) schedule
    → choice w schedule ≡ None → IsAtRest w
