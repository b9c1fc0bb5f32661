-- The leader routes what was held for names that have come, and all that this releases in turn.
use Rattle.std.specs.Prelude.{ℕ, zero, suc, ◌+◌, List, [], ◌∷◌, ◌++◌, Option, Some, None, count_by}
use Rattle.std.specs.Option.{option_and_then}
use Rattle.pico_base.specs.declared.script.Script.{Script}
use Rattle.node_model.specs.declared.held.Held.{Held}
use Rattle.node_model.specs.declared.held.Held.TheVariants.{Request, Ending}
use Rattle.node_model.specs.Directory.{is_parcel, parcels_held}
use Rattle.world_model.specs.Step.{Step}
use Rattle.world_model.specs.Routes.{route_held}
use Rattle.world_model.specs.Ends.{AfterEnd, IsHeld, Releases, end_process}

-- The first item is taken off: a call or a withdrawal is routed, and of a parcel the process ends, and what that
-- releases goes in front. A parcel that isn't held again is gone for good, so there are no more rounds than parcels.

abbrev pub go_on_after : (List Held → Step → Option Step) → (Step → Option Step) → List Held → AfterEnd → Option Step
go_on_after next_round go_on rest (IsHeld step) = go_on step
go_on_after next_round go_on rest (Releases step items) = next_round (items ++ rest) step

abbrev pub release_round : Script → (List Held → Step → Option Step) → List Held → Step → Option Step
release_round script next_round [] step = Some step
release_round script next_round (Request asked ∷ rest) step =
    option_and_then (release_round script next_round rest) (route_held script step asked)
release_round script next_round (Ending parcel ∷ rest) step =
    option_and_then (go_on_after next_round (release_round script next_round rest) rest)
    (end_process script step parcel)

abbrev pub no_round : List Held → Step → Option Step
no_round items step = None

abbrev pub release_rounds : ℕ → Script → List Held → Step → Option Step
release_rounds zero script = release_round script no_round
release_rounds (suc rounds) script = release_round script (release_rounds rounds script)

abbrev pub release : Script → List Held → Step → Option Step
release script items step =
    release_rounds (count_by is_parcel items + parcels_held step.node.leader.directory) script items step
