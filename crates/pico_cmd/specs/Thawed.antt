-- The run that begins as an image says and goes on by schedule 0.
use Rattle.std.specs.Prelude.{◌≡◌, ℕ, Bool, List, [], ◌++◌, map, Option, Some, Err}
use Rattle.std.specs.Option.{unwrap_or}
use Rattle.pico_base.specs.declared.script.Event.{Event}
use Rattle.kernel_model.specs.Trace.{trace_text}
use Rattle.world_model.specs.World.{World, size}
use Rattle.world_model.specs.Run.{is_stalled}
use Rattle.world_model.specs.Schedule.{Follows, InTurn}
use Rattle.image_text.specs.declared.fault.ImageFault.{ImageFault}
use Rattle.image_text.specs.declared.fault.ImageStop.TheVariants.{At}
use Rattle.world_image.specs.declared.thawing.Thawed.{Thawed}
use Rattle.world_image.specs.Thawing.{thawed}
use Rattle.world_image.specs.Thaws.{IsThawOf}
use Rattle.pico_cmd.specs.declared.answer.Answer.{Answer}
use Rattle.pico_cmd.specs.Run.{IsRunToRest}
use Rattle.pico_cmd.specs.Stalled.{IsLeftAs, status_left}

-- the node behind which schedule 0 goes on: that of the last event, and else the last node, so that node 1 comes first
abbrev pub node_behind : World → Option ℕ → ℕ
node_behind w last = unwrap_or last (size w)

-- The image is thawed, its script's run goes on from there by schedule 0 to rest, and is left so. The text is the trace
-- of the whole run, which begins with the image's events.
pub record IsTextOfThaw (image : List ℕ) (stalled : Bool) (text : List ℕ) : Type 0 where
  pub world : World
  pub last_node : Option ℕ
  pub thaws : IsThawOf image world last_node
  pub further : List Event
  pub last : World
  pub goes_on : Follows world (InTurn (node_behind world last_node)) further last
  pub run : IsRunToRest thaws.script (map (λ e. e.item) thaws.order ++ further) last
  pub left : IsLeftAs stalled last
  pub is_text : text ≡ trace_text thaws.script last.journal

-- this is the image's first fault behind its script
abbrev pub IsImageFault : List ℕ → ℕ → ImageFault → Type 0
IsImageFault image line fault = thawed image ≡ Err (At line fault)

-- ---- the code's steps

-- from the one world schedule 0 goes on behind this node, to the other
pub record GoesOn (old : Option World) (behind : ℕ) (new : Option World) : Type 0 where
  pub from : World
  pub old_is : old ≡ Some from
  pub further : List Event
  pub last : World
  pub new_is : new ≡ Some last
  pub follows : Follows from (InTurn behind) further last

-- the answer of what was thawed: the world goes on by schedule 0, and the text is the trace of the last world's journal
pub record AnswersThaw (t : Thawed) (a : Answer) : Type 0 where
  pub from : World
  pub world_is : t.world ≡ Some from
  pub further : List Event
  pub last : World
  pub follows : Follows from (InTurn (node_behind from t.last)) further last
  pub status_is : a.status ≡ status_left (is_stalled last)
  pub is_text : a.text ≡ trace_text last.script last.journal
  pub alone : a.rested ≡ []
