-- What freezing and thawing come to together.
use Rattle.std.specs.Prelude.{ℕ, ◌≤◌, List, length, map, None}
use Rattle.std.specs.List.{AllByRecursion}
use Rattle.pico_base.specs.declared.script.Script.{Script}
use Rattle.pico_base.specs.declared.script.Event.{Event}
use Rattle.stamp_merge.specs.declared.Stamped.{Stamped}
use Rattle.script_reader.specs.Fault.{Reads}
use Rattle.world_model.specs.World.{World}
use Rattle.world_model.specs.Run.{IsRunOf}
use Rattle.image_text.specs.Image.{max_image, image_text}
use Rattle.image_text.specs.Grammar.{MayStand, StampsRiseByNode, IsOrderOf}
use Rattle.world_image.specs.Thaws.{last_from, IsThawOf}

-- The bytes are the text of the script, each event may stand in its image, each node's stamps rise, and the image isn't
-- too large.
pub record MayFreeze (bytes : List ℕ) (script : Script) (events : List (Stamped Event)) : Type 0 where
  pub reads : Reads bytes script
  pub stand : AllByRecursion (MayStand (length script.blocks)) events
  pub stamps : StampsRiseByNode events
  pub within : length (image_text bytes events) ≤ max_image

-- What freezing writes of events that, in order, are a run of the script thaws to the world after that run.
abbrev pub FrozenWorldsThaw : Type 0
FrozenWorldsThaw =
    (bytes : List ℕ) (script : Script) (events order : List (Stamped Event)) (w : World)
    → MayFreeze bytes script events → IsOrderOf events order → IsRunOf script (map (λ e. e.item) order) w
    → IsThawOf (image_text bytes events) w (last_from None order)
