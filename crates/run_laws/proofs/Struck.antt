-- The strike behind a frame's rule: it gives what the rule owes, and costs nothing.
use Rattle.std.proofs.Common.{◌≡◌, ℕ, true, List, [], ◌∙◌, sym, subst, ◌≢◌, ap, inl, inr, refl}
use Rattle.std.proofs.lemmas.Bool.{eqb-true, cases_eq, false≢true}
use Rattle.pico_base.specs.declared.script.Event.TheVariants as events
use Rattle.pico_base.specs.declared.script.Script.{Script}
use Rattle.rpc_frame.specs.declared.frame.Frame.{Frame}
use Rattle.kernel_laws.proofs.Plain.{of-some}
use Rattle.kernel_model.specs.Script.{IsSoundScript}
use Rattle.world_model.specs.Node.{Node, is_leader, Stage, Unborn, Living, Leaving, Left, Over}
use Rattle.world_model.specs.Step.{Step}
use Rattle.world_model.specs.Turn.{take_by_kind}
use Rattle.world_model.specs.World.{World, world_after}
use Rattle.world_laws.specs.Cancels.{owing_of}
use Rattle.world_laws.specs.Families.{NodeHolds, is_first_stage}
use Rattle.world_laws.specs.Invariant.{Holds}
use Rattle.world_laws.specs.Places.{Beside}
use Rattle.world_laws.specs.Sights.{is_born_in, node_of, is_born_stage, stage_of}
use Rattle.world_laws.proofs.Steps.{Heads, world_without}
use Rattle.route_laws.proofs.Owed.{HoldsAt, KeepsByRule}
use Rattle.route_laws.proofs.cancels.Strikes.{strike-keeps}
use Rattle.route_laws.proofs.served.Turns.{node-at}
use Rattle.bound_laws.specs.Bounded.{IsBounded, NodeIsBounded, StepIsBounded}
use Rattle.bound_laws.proofs.Ready.{Ready}
use Rattle.bound_laws.proofs.Turns.{take-by-kind-bounded}
use Rattle.bound_laws.proofs.Worlds.{head-is-bounded, without-is-bounded, without-is-shaped}
use Rattle.weight_laws.proofs.CallHeads.{may-end-if}
use Rattle.weight_laws.proofs.Cancels.{LeadsRightly}
use Rattle.weight_laws.proofs.Costs.{MayEndIf, RisesBesides}
use Rattle.weight_laws.proofs.LightEvents.{KeepsLightly, RuleKeepsLightly, struck-lightly}
use Rattle.run_laws.proofs.Middle.{leader-leads, ready-behind}
use Rattle.route_laws.proofs.served.Replies.{IsAtWork}

first-is-born : (stage : Stage) → is_first_stage stage ≡ true → is_born_stage stage ≡ true
first-is-born Unborn h = absurd (false≢true h)
first-is-born Living h = refl
first-is-born Leaving h = refl
first-is-born Left h = refl
first-is-born Over h = refl

-- queues and sets of a bounded node stand by rising number
pub bounded-rises : (script : Script) (n : Node) → NodeIsBounded script n → RisesBesides n
bounded-rises script n own other =
    let deeds = own.deeds in let rise = deeds.rise in record { queues = rise.queues; sets = rise.sets }

module _ (script : Script) (sound : IsSoundScript script) (w : World) (b : Beside) (holds : Holds script w [] b)
    (bounded : IsBounded script w []) (p q : ℕ) (frame : Frame) (rest : List Frame)
    (h : Heads script w p q frame rest) (r : RuleKeepsLightly script w p q frame rest b)
    (born : p ≢ 1 → (let n : Node = r.keeps.step.node in is_born_stage n.stage ≡ true)) where
  abbrev by-rule : KeepsByRule script w p q frame rest r.beside
  by-rule = r.keeps

  abbrev v : World
  v = world_without w p q rest

  abbrev s : Step
  s = by-rule.step

  step-bounded : StepIsBounded script s
  step-bounded =
      of-some (StepIsBounded script) (take_by_kind script (node_of w p) q frame) s
      (take-by-kind-bounded script (node_of w p) p q frame (bounded.nodes p h.low h.high)
      (head-is-bounded script w [] p q frame rest h bounded)) by-rule.is_step

  middle : HoldsAt script v p s [] r.beside
  middle = by-rule.holds

  here : node_of (world_after v p s) p ≡ s.node
  here = node-at script v p s middle.shape h.low h.high

  ready : Ready script (world_after v p s) [] r.beside
  ready =
      ready-behind script sound v p s r.beside (record { low = h.low; high = h.high })
      (without-is-shaped script w p q frame rest holds.shape h)
      (without-is-bounded script w [] p q frame rest holds.shape h bounded) step-bounded middle

  -- the leader is always born
  at-work : IsAtWork script (world_after v p s) p
  at-work =
      record {
        low = h.low;
        high = h.high;
        born = elim (cases_eq p 1) [
          | inl first ↦
              let n : NodeHolds script r.beside.pids (is_born_in (world_after v p s)) p
              (node_of (world_after v p s) p) =
              middle.nodes p h.low h.high
              in first-is-born (stage_of (world_after v p s) p) (n.first first)
          | inr other ↦ ap (λ (n : Node). is_born_stage n.stage) here ∙ born other
        ];
      }

  may-end : MayEndIf script s.node
  may-end =
      subst (λ (n : Node). MayEndIf script n) here
      (may-end-if script (world_after v p s) [] r.beside middle p h.low h.high)

  rises : RisesBesides s.node
  rises = bounded-rises script s.node step-bounded.node

  leads : (let n : Node = s.node in is_leader n ≡ true) → LeadsRightly s.node
  leads e =
      subst (λ (n : Node). LeadsRightly n) here
      (subst (λ y. LeadsRightly (node_of (world_after v p s) y)) (sym first)
      (leader-leads script sound (world_after v p s) [] (owing_of p s.strikes) r.beside middle ready))
    where
      number-is : (node_of (world_after (world_without w p q rest) p r.keeps.step) p).number ≡ p
      number-is =
          let n : NodeHolds script r.beside.pids (is_born_in (world_after v p s)) p (node_of (world_after v p s) p) =
          middle.nodes p h.low h.high
          in n.number

      first : p ≡ 1
      first =
          sym number-is
          ∙ eqb-true (node_of (world_after v p s) p).number 1
          (subst (λ (n : Node). is_leader n ≡ true) (sym here) e)

  -- With the strike behind it the rule is the event.
  pub struck : KeepsLightly script w (events.Take p q) b
  struck =
      struck-lightly script w p q frame rest b holds.shape h r may-end rises leads
      (strike-keeps script v p s r.beside middle at-work (λ first. ready.at_nodes))
