-- A node has handed over what it held: its process's parcel is in the leader's hand, and the weight is lower. So it is
-- afterwards, where the release of the hand makes it no heavier.
use Rattle.std.proofs.Common.{◌≡◌, ℕ, ◌+◌, ◌≤◌, ◌&&◌, List, [], ◌∷◌, Option, Some, None, option_and_then, arith}
use Rattle.pico_base.specs.declared.script.Script.{Script}
use Rattle.rpc_frame.specs.declared.deed.Parcel.{Parcel}
use Rattle.rpc_frame.specs.declared.frame.Frame.{Frame}
use Rattle.rpc_frame.specs.declared.frame.Frame.TheVariants as frames
use Rattle.number_maps.specs.Maps.{Numbered}
use Rattle.kernel_laws.proofs.Plain.{not_some}
use Rattle.node_model.specs.Bodies.{Body}
use Rattle.node_model.specs.Directory.{with_left}
use Rattle.node_model.specs.declared.held.Held.TheVariants.{Ending}
use Rattle.node_model.specs.Parcels.{fitting_bodies}
use Rattle.world_model.specs.Lives.{end_released, may_take, take_left}
use Rattle.world_model.specs.Node.{Node, is_leader}
use Rattle.world_model.specs.Releases.{release}
use Rattle.world_model.specs.Step.{Step, step_to, with_directory}
use Rattle.world_model.specs.World.{World}
use Rattle.world_laws.specs.Invariant.{Holds}
use Rattle.world_laws.specs.Places.{Beside, CallPlace}
use Rattle.world_laws.specs.Sights.{node_of}
use Rattle.world_laws.proofs.Steps.{Heads}
use Rattle.weight_laws.specs.Weights.{calls_weight, middle_weight, node_weight}
use Rattle.weight_laws.proofs.Events.{Lowers, TakesLower}
use Rattle.weight_laws.proofs.Parts.{passed}

module _ (script : Script) (w : World) (b : Beside) (holds : Holds script w [] b) (q : ℕ) (parcel : Parcel)
    (rest : List Frame) (h : Heads script w 1 q (frames.Left parcel) rest) (call_after : ℕ → CallPlace) where
  abbrev n : Node
  n = node_of w 1

  -- the step once the node has left
  abbrev pub left_step : Step
  left_step = step_to (with_directory n (with_left n.leader.directory q))

  -- the release makes it no heavier
  abbrev pub EndIsLight : Type 0
  EndIsLight =
      (t : Step) → release script (Ending parcel ∷ []) left_step ≡ Some t
      → middle_weight script t [] call_after ≤ middle_weight script left_step (Ending parcel ∷ []) b.call

  -- In the middle of the event it weighs no more than before with one less for the frame.
  pub left-begins : middle_weight script left_step (Ending parcel ∷ []) b.call
      ≤ node_weight script n + (1 + calls_weight script b.call)
  left-begins = omega arith

  by-bodies : (t : Step) (o : Option (Numbered Body)) → EndIsLight
      → option_and_then (end_released script n q parcel) o ≡ Some t → Lowers script n 2 b.call call_after t
  by-bodies t None light is = not_some t is
  by-bodies t (Some bodies) light is =
      let less = light t is
      in let begins = left-begins
      in record { lower = omega (arith, less, begins) }

  left-lowers : EndIsLight → (t : Step) → take_left script n q parcel ≡ Some t → Lowers script n 2 b.call call_after t
  left-lowers light t rule =
      by-bodies t (fitting_bodies n.deeds parcel) light
      (passed (is_leader n && may_take n q parcel)
      (option_and_then (end_released script n q parcel) (fitting_bodies n.deeds parcel)) t rule).1

  -- So the event lowers the weight.
  pub left-falls : EndIsLight → TakesLower script w 1 q (frames.Left parcel) b.call call_after
  left-falls light = left-lowers light
