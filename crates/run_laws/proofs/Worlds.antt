-- What each world of a run has: the invariant, bounds, and limits of what nodes hold and say. The opening world has it,
-- and each enabled event has a step that keeps it.
use Rattle.std.proofs.Common.{◌≡◌, ℕ, true, refl, List, [], ◌∷◌, Some, sym, subst, ◌∙◌}
use Rattle.pico_base.specs.declared.script.Event.{Event}
use Rattle.pico_base.specs.declared.script.Event.TheVariants as events
use Rattle.pico_base.specs.declared.script.Script.{Script}
use Rattle.kernel_model.specs.Script.{IsSoundScript}
use Rattle.kernel_laws.proofs.Plain.{from_some}
use Rattle.world_model.specs.Run.{IsReachableWorld, Runs}
use Rattle.world_model.specs.World.{World, is_enabled, opening_world, step}
use Rattle.world_laws.specs.Invariant.{HasInvariant, Holds}
use Rattle.world_laws.specs.Places.{Beside}
use Rattle.world_laws.proofs.Steps.{KeepsAs}
use Rattle.rule_laws.proofs.Opening.{opening-holds}
use Rattle.rule_laws.proofs.own.Enabled.{IsRun, enabled-runs}
use Rattle.rule_laws.proofs.own.Moved.{AfterRun}
use Rattle.rule_laws.proofs.own.OwnCases.{Keeps}
use Rattle.bound_laws.specs.Bounded.{IsShapedAndBounded}
use Rattle.bound_laws.proofs.Runs.{opening-is-shaped-and-bounded}
use Rattle.bound_laws.proofs.Scripts.{sound-is-runnable}
use Rattle.bound_laws.proofs.Worlds.{event-stays-bounded}
use Rattle.world_limit_laws.specs.Within.{IsWorldWithin}
use Rattle.world_limit_laws.proofs.Worlds.{event-keeps-limits, opening-is-within}
use Rattle.run_laws.proofs.Comes.{enabled-by-rules}
use Rattle.run_laws.proofs.Starts.{run-keeps}
use Rattle.run_laws.proofs.Takes.{in-order, take-keeps}
use Rattle.weight_laws.specs.Runs.{RunsAreShort}
use Rattle.weight_laws.proofs.Law.{each-run-falls}
use Rattle.weight_laws.proofs.LightEvents.{KeepsLightly}
use Rattle.weight_laws.proofs.LightRuns.{EachKeepsLightly, light-runs-are-short}

-- what each world of a run has beside the invariant
pub record IsRoomy (script : Script) (w : World) : Type 0 where
  pub bounded : IsShapedAndBounded script w
  pub within : IsWorldWithin script w

-- What each world of a run has.
pub record IsSettled (script : Script) (w : World) : Type 0 where
  pub invariant : HasInvariant script w
  pub roomy : IsRoomy script w

-- The event has a step, after which the world has it again.
pub record StaysSettled (script : Script) (w : World) (e : Event) : Type 0 where
  pub next : World
  pub is_step : step w e ≡ Some next
  pub settled : IsSettled script next

module _ (script : Script) (sound : IsSoundScript script) where
  opening-is-roomy : IsRoomy script (opening_world script)
  opening-is-roomy =
      record { bounded = opening-is-shaped-and-bounded script sound; within = opening-is-within script }

  event-stays-roomy : (w next : World) (e : Event) → IsRoomy script w → is_enabled w e ≡ true → step w e ≡ Some next
      → IsRoomy script next
  event-stays-roomy w next e k enabled is =
      record {
        bounded = event-stays-bounded script sound w next k.bounded e enabled is;
        within = event-keeps-limits script w next e sound k.bounded k.within enabled is;
      }

  -- The opening world has it.
  pub opening-is-settled : IsSettled script (opening_world script)
  opening-is-settled =
      record {
        invariant = record { beside = _; holds = opening-holds script (sound-is-runnable script sound) };
        roomy = opening-is-roomy;
      }

  run-lightly : (w : World) (b : Beside) (p : ℕ) → Holds script w [] b → IsShapedAndBounded script w
      → is_enabled w (events.Run p) ≡ true → KeepsLightly script w (events.Run p) b
  run-lightly w b p holds bounds enabled =
      let k : Keeps script w (events.Run p) (AfterRun b p) =
      run-keeps script sound w b holds bounds.bounded p enabled
      in let after : Beside = k.beside
      in let r : IsRun script w p = enabled-runs script w p holds.shape enabled
      in record {
        beside = k.beside;
        keeps = k.keeps;
        falls = each-run-falls script w b holds (in-order script sound w b holds bounds.bounded) p r.low r.high
            after.call k.after;
      }

  -- Each enabled event has a step by the rules that keeps all, and lowers the weight.
  event-keeps-lightly : (w : World) (b : Beside) (e : Event) → Holds script w [] b → IsShapedAndBounded script w
      → is_enabled w e ≡ true → KeepsLightly script w e b
  event-keeps-lightly w b (events.Run p) holds bounds enabled = run-lightly w b p holds bounds enabled
  event-keeps-lightly w b (events.Take p q) holds bounds enabled =
      take-keeps script sound w b holds bounds.bounded p q enabled

  each-keeps-lightly : EachKeepsLightly script (IsRoomy script)
  each-keeps-lightly w b e holds besides enabled = event-keeps-lightly w b e holds besides.bounded enabled

  -- Each enabled event has a step, and keeps it.
  pub event-stays-settled : (w : World) (e : Event) → IsSettled script w → is_enabled w e ≡ true
      → StaysSettled script w e
  event-stays-settled w e k enabled =
      let kept : KeepsLightly script w e k.invariant.beside =
      event-keeps-lightly w k.invariant.beside e k.invariant.holds k.roomy.bounded enabled
      in let s : KeepsAs script w e kept.beside = kept.keeps
      in let bounds : IsShapedAndBounded script w = k.roomy.bounded
      in let is_step : step w e ≡ Some s.next =
      enabled-by-rules script sound w k.invariant.beside k.invariant.holds bounds.bounded k.roomy.within e enabled
      ∙ s.is_step
      in record {
        next = s.next;
        is_step = is_step;
        settled = record {
          invariant = record { beside = kept.beside; holds = s.holds };
          roomy = event-stays-roomy w s.next e k.roomy enabled is_step;
        };
      }

  along : (es : List Event) (w last : World) → Runs w es last → IsSettled script w → IsSettled script last
  along [] w last run k = subst (IsSettled script) run k
  along (e ∷ es) w last run k =
      let s : StaysSettled script w e = event-stays-settled w e k run.enabled
      in along es run.next last run.rest
      (subst (IsSettled script) (from_some s.next run.next (sym s.is_step ∙ run.steps)) s.settled)

  -- So each world that a run leads to has it.
  pub reachable-is-settled : (w : World) → IsReachableWorld script w → IsSettled script w
  reachable-is-settled w run = along run.0 (opening_world script) w run.1 opening-is-settled

  -- And a run is short.
  pub settled-runs-are-short : RunsAreShort script
  settled-runs-are-short =
      light-runs-are-short script (IsRoomy script) event-stays-roomy each-keeps-lightly _
      (opening-holds script (sound-is-runnable script sound)) opening-is-roomy (λ p. refl)
