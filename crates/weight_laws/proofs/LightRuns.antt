-- Where each enabled event has a step that keeps all and lowers the weight, runs are short.
use Rattle.std.proofs.Common.{◌≡◌, ℕ, true, [], Some, sym, subst, ◌∙◌}
use Rattle.pico_base.specs.declared.script.Event.{Event}
use Rattle.pico_base.specs.declared.script.Script.{Script}
use Rattle.kernel_laws.proofs.Plain.{from_some}
use Rattle.world_model.specs.World.{World, is_enabled, opening_world, step}
use Rattle.world_laws.specs.ByRules.{step_by_rules}
use Rattle.world_laws.specs.Invariant.{Holds}
use Rattle.world_laws.specs.Places.{Beside, Idle}
use Rattle.world_laws.proofs.ByRules.{step-is-by-rules}
use Rattle.world_laws.proofs.Steps.{KeepsAs}
use Rattle.weight_laws.specs.Runs.{EachGoesOn, RunsAreShort}
use Rattle.weight_laws.proofs.LightEvents.{KeepsLightly}
use Rattle.weight_laws.proofs.Runs.{runs-are-short}

-- what holds besides, as bounds on numbers, stays with each event
abbrev pub StaysAlong : (World → Type 0) → Type 0
StaysAlong Besides =
    (w next : World) (e : Event) → Besides w → is_enabled w e ≡ true → step w e ≡ Some next → Besides next

-- the invariant, and what holds besides
pub record HoldsWith (script : Script) (Besides : World → Type 0) (w : World) (b : Beside) : Type 0 where
  pub all : Holds script w [] b
  pub besides : Besides w

-- each enabled event has a step that keeps all and lowers the weight
abbrev pub EachKeepsLightly : Script → (World → Type 0) → Type 0
EachKeepsLightly script Besides =
    (w : World) (b : Beside) (e : Event) → Holds script w [] b → Besides w → is_enabled w e ≡ true
    → KeepsLightly script w e b

module _ (script : Script) (Besides : World → Type 0) (stays : StaysAlong Besides)
    (each : EachKeepsLightly script Besides) where
  goes-on : EachGoesOn script (HoldsWith script Besides)
  goes-on w next b e h enabled is =
      let light : KeepsLightly script w e b = each w b e h.all h.besides enabled
      in let kept : KeepsAs script w e light.beside = light.keeps
      in let by_rules : step_by_rules w e ≡ Some next = step-is-by-rules w next e is
      in record {
        beside = light.beside;
        holds = record {
          all = subst (λ x. Holds script x [] light.beside) (from_some _ _ (sym kept.is_step ∙ by_rules)) kept.holds;
          besides = stays w next e h.besides enabled is;
        };
        lower = light.falls next by_rules;
      }

  -- A run of the script has at most 32 events for each of its calls.
  pub light-runs-are-short : (b : Beside) → Holds script (opening_world script) [] b → Besides (opening_world script)
      → ((p : ℕ) → b.call p ≡ Idle) → RunsAreShort script
  light-runs-are-short b holds besides idle =
      runs-are-short script (HoldsWith script Besides) goes-on b (record { all = holds; besides = besides }) idle
