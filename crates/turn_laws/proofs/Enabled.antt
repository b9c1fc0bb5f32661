-- In a world of a run a turn that may be made has a rule.
use Rattle.std.proofs.Common.{◌≡◌, ℕ, true, ◌||◌, if◌then◌else◌, List, Option, Some, None, is_some, refl, ap, sym, ◌∙◌}
use Rattle.pico_base.specs.declared.script.Event.TheVariants as events
use Rattle.pico_base.specs.declared.script.Script.{Script}
use Rattle.rpc_frame.specs.declared.frame.Frame.{Frame}
use Rattle.kernel_model.specs.Script.{IsSoundScript}
use Rattle.world_model.specs.Node.{Node, can_run, is_born}
use Rattle.world_model.specs.Starting.{run}
use Rattle.world_model.specs.Step.{Step}
use Rattle.world_model.specs.Turn.{take_frame}
use Rattle.world_model.specs.World.{World, after_turn, is_checkpoint, runs_at, step, stream, takes_at}
use Rattle.world_laws.proofs.Steps.{world_without}
use Rattle.bound_laws.specs.Bounded.{IsShapedAndBounded}
use Rattle.bound_laws.proofs.Runs.{reachable-is-bounded}
use Rattle.run_laws.proofs.Runs.{enabled_events_have_steps_lemma}
use Rattle.log_laws.specs.Logs.{Runs, Takes, StampedFrame, turn_on}
use Rattle.log_laws.specs.Follows.{StandsFirst}
use Rattle.turn_laws.specs.Laws.{EnabledTurnsHaveSteps, IsTurnIn}
use Rattle.turn_laws.proofs.Turns.{turn-enabled}

some-before : (w : World) (p : ℕ) (o : Option Step) → is_some (after_turn w p o) ≡ true → is_some o ≡ true
some-before w p None h = h
some-before w p (Some s) h = refl

module _ (script : Script) (sound : IsSoundScript script) (w : World) (p : ℕ) (n : Node) where
  run-has-step : IsTurnIn script w p n Runs → can_run n ≡ true → is_some (turn_on script n Runs) ≡ true
  run-has-step t may =
      let k : IsShapedAndBounded script w = reachable-is-bounded script sound w t.reachable
      in let some : is_some (step w (events.Run p)) ≡ true =
      enabled_events_have_steps_lemma script w (events.Run p) sound t.reachable
      (turn-enabled script sound w p n Runs t may)
      in ap (λ b. is_some (if b then run script n else None)) may
      ∙ some-before w p (run script n)
      (sym (ap (λ o. is_some (runs_at w p o)) t.node
      ∙ ap (λ (x : Script). is_some (after_turn w p (run x n))) k.shape.of_script)
      ∙ some)

  take-has-step : (from : ℕ) (taken : StampedFrame) → IsTurnIn script w p n (Takes from taken)
      → (is_born n || is_checkpoint taken.frame) ≡ true → is_some (turn_on script n (Takes from taken)) ≡ true
  take-has-step from taken t may =
      let k : IsShapedAndBounded script w = reachable-is-bounded script sound w t.reachable
      in let f : StandsFirst script w p from taken.frame = t.there
      in let frame : Frame = taken.frame
      in let without : World = world_without w p from f.rest
      in let some : is_some (step w (events.Take p from)) ≡ true =
      enabled_events_have_steps_lemma script w (events.Take p from) sound t.reachable
      (turn-enabled script sound w p n (Takes from taken) t may)
      in ap (λ b. is_some (if b then take_frame script n from frame else None)) may
      ∙ some-before without p (take_frame script n from frame)
      (sym (ap (λ o. is_some (takes_at w p from o (stream w p from))) t.node
      ∙ ap (λ (fs : List Frame). is_some (takes_at w p from (Some n) fs)) f.first
      ∙ ap (λ (x : Script). is_some (after_turn without p (take_frame x n from frame))) k.shape.of_script)
      ∙ some)

-- a turn that may be made has a step
pub enabled_turns_have_steps_lemma : EnabledTurnsHaveSteps
enabled_turns_have_steps_lemma script w p n Runs sound t may = run-has-step script sound w p n t may
enabled_turns_have_steps_lemma script w p n (Takes from taken) sound t may =
    take-has-step script sound w p n from taken t may
