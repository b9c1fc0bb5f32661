-- The world that an image is of, or the image's first fault.
use Rattle.std.specs.Prelude.{◌≡◌, ℕ, List, [], ◌∷◌, if◌then◌else◌, Option, Some, None, IfSome, IsSome, Result, Ok, Err}
use Rattle.std.specs.Option.{option_map_or}
use Rattle.stamp_merge.specs.declared.Stamped.{Stamped}
use Rattle.world_model.specs.World.{World, opening_world, is_enabled, step}
use Rattle.image_text.specs.declared.placed.Placed.{Placed}
use Rattle.image_text.specs.declared.image.Said.{Said}
use Rattle.image_text.specs.declared.fault.ImageFault.TheVariants.{NotEnabled}
use Rattle.image_text.specs.declared.fault.ImageStop.{ImageStop}
use Rattle.image_text.specs.declared.fault.ImageStop.TheVariants.{At}
use Rattle.image_text.specs.Gives.{Stops}
use Rattle.image_text.specs.Reading.{said_by}
use Rattle.world_image.specs.declared.thawing.Thawed.{Thawed}

-- a world, and the node of the last event
abbrev pub Outcome : Type 0
Outcome = Result (World × Option ℕ) ImageStop

abbrev pub not_enabled : ℕ → ImageStop
not_enabled line = At line NotEnabled

-- the world behind these events, of which the first comes in this world and behind an event of the node `last`
unfoldable pub behind : World → Option ℕ → List (Stamped Placed) → Outcome
behind w last [] = Ok (w, last)
behind w last (e ∷ events) =
    if is_enabled w e.item.event
    then
    option_map_or (λ next. behind next (Some e.node) events) (step w e.item.event) (Err (not_enabled e.item.line))
    else Err (not_enabled e.item.line)

abbrev pub of_said : Result Said ImageStop → Outcome
of_said (Err stop) = Err stop
of_said (Ok said) = behind (opening_world said.script) None said.events

-- the world of an image
unfoldable pub thawed : List ℕ → Outcome
thawed image = of_said (said_by image)

-- a world that was stepped, and the last node that was returned, are what is wanted, unless memory ran out
abbrev pub Leads : Result (Option ℕ) ImageStop → Option World → Outcome → Type 0
Leads (Ok last) now wanted = IsSome now × IfSome now (λ w. wanted ≡ Ok (w, last))
Leads (Err stop) now wanted = Stops stop wanted

-- what a function returned is what is wanted, unless memory ran out
abbrev pub Gives : Result Thawed ImageStop → Outcome → Type 0
Gives (Ok t) wanted = IsSome t.world × IfSome t.world (λ w. wanted ≡ Ok (w, t.last))
Gives (Err stop) wanted = Stops stop wanted
