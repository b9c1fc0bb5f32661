-- What a run of events is bounded by: the weight of the world that it begins with.
use Rattle.std.specs.Prelude.{◌≡◌, ◌<◌, ◌≤◌, ◌*◌, true, List, length, Some}
use Rattle.pico_base.specs.declared.script.Event.{Event}
use Rattle.pico_base.specs.declared.script.Script.{Script}
use Rattle.world_model.specs.World.{World, is_enabled, step}
use Rattle.world_model.specs.Run.{IsRunOf}
use Rattle.world_laws.specs.Places.{Beside}
use Rattle.weight_laws.specs.Weights.{calls_of, weight}

-- what holds of a world with something beside it holds of the next one, too, which weighs less
pub record GoesOn (script : Script) (Holding : World → Beside → Type 0) (w next : World) (b : Beside) : Type 0 where
  pub beside : Beside
  pub holds : Holding next beside
  pub lower : weight script next beside.call < weight script w b.call

-- each enabled event goes on so
abbrev pub EachGoesOn : Script → (World → Beside → Type 0) → Type 0
EachGoesOn script Holding =
    (w next : World) (b : Beside) (e : Event) → Holding w b → is_enabled w e ≡ true → step w e ≡ Some next
    → GoesOn script Holding w next b

-- a run of the script has at most 32 events for each of its calls
abbrev pub RunsAreShort : Script → Type 0
RunsAreShort script =
    (events : List Event) (last : World) → IsRunOf script events last → length events ≤ 32 * calls_of script
