-- What thawing says yes to: an image whose events, in order, are a run of its script.
use Rattle.std.specs.Prelude.{◌≡◌, ℕ, List, [], ◌∷◌, map, Option, Some, None, Result, Ok, Err}
use Rattle.pico_base.specs.declared.script.Script.{Script}
use Rattle.pico_base.specs.declared.script.Event.{Event}
use Rattle.stamp_merge.specs.declared.Stamped.{Stamped}
use Rattle.world_model.specs.World.{World}
use Rattle.world_model.specs.Run.{IsRunOf}
use Rattle.image_text.specs.declared.fault.ImageStop.{ImageStop}
use Rattle.image_text.specs.declared.fault.ImageStop.TheVariants.{Memory}
use Rattle.image_text.specs.Grammar.{IsImage, StampsRiseByNode, IsOrderOf}
use Rattle.world_image.specs.declared.thawing.Thawed.{Thawed}

-- the node of the last of these events, or this one where there is none
abbrev pub last_from : {T : Type 0} → Option ℕ → List (Stamped T) → Option ℕ
last_from last [] = last
last_from last (e ∷ events) = last_from (Some e.node) events

-- The text is an image, each node's stamps rise, and its events in order are a run of its script to this world; the
-- last of them is of this node.
pub record IsThawOf (image : List ℕ) (w : World) (last : Option ℕ) : Type 0 where
  pub script : Script
  pub events : List (Stamped Event)
  pub is_image : IsImage image script events
  pub stamps : StampsRiseByNode events
  pub order : List (Stamped Event)
  pub is_order : IsOrderOf events order
  pub run : IsRunOf script (map (λ e. e.item) order) w
  pub last_is : last ≡ last_from None order

-- what was thawed is this world and this node, unless memory ran out
abbrev pub IsThawedAs : World → Option ℕ → Result Thawed ImageStop → Type 0
IsThawedAs w last (Ok t) = (t.world ≡ Some w) × (t.last ≡ last)
IsThawedAs w last (Err Memory) = Unit {0}
IsThawedAs w last (Err stop) = ⊥
