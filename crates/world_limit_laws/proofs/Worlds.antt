-- An event leaves the nodes and the frames on their way within limits.
use Rattle.std.proofs.Common.{◌≡◌, ℕ, ◌-◌, Bool, true, false, nat_eq, nat_lt, List, [], ◌∷◌, length, map, Option, Some, None, unwrap_or, refl, ap, sym, subst, ◌∙◌, inl, inr, arith}
use Rattle.std.specs.Prelude.{if◌then◌else◌}
use Rattle.std.specs.List.{AllByRecursion}
use Rattle.std.proofs.lemmas.Bool.{cases_eq, lt-ltb}
use Rattle.pico_base.specs.declared.reply.Entry.{Entry}
use Rattle.pico_base.specs.declared.script.Event.TheVariants as events
use Rattle.pico_base.specs.declared.script.Script.{Script}
use Rattle.rpc_frame.specs.declared.frame.Frame.{Frame}
use Rattle.kernel_model.specs.Script.{IsSoundScript}
use Rattle.world_model.specs.Node.{Node, opening_node, unborn_node}
use Rattle.world_model.specs.Step.{Step}
use Rattle.world_model.specs.Starting.{run}
use Rattle.world_model.specs.Turn.{take_by_rules, take_frame}
use Rattle.world_laws.proofs.ByRules.{taken-by-rules}
use Rattle.world_model.specs.World.{World, after_turn, is_enabled, node_at, node_count, numbers, opening_world, runs_at, step, world_after}
use Rattle.world_laws.specs.Sights.{node_of}
use Rattle.world_laws.proofs.Changes.{Changes, frames_if, sent, taken}
use Rattle.world_laws.proofs.Sends.{frame_if, frames_with}
use Rattle.world_laws.proofs.Steps.{Heads, changes-by-run, changes-by-take, frames-low, node-there, turn-with, world_without}
use Rattle.rule_laws.proofs.own.Enabled.{IsRun, enabled-runs}
use Rattle.rule_laws.proofs.Enabled.{IsTaken, enabled-takes}
use Rattle.limit_laws.specs.Within.{IsFrameWithin, IsNodeWithin, IsSentWithin, IsStepWithin}
use Rattle.kernel_laws.proofs.Plain.{of-some}
use Rattle.limit_laws.proofs.Turns.{opening-within, sent-has-variables, started-within, taken-within, unborn-within}
use Rattle.bound_laws.specs.Bounded.{IsShapedAndBounded, StepIsBounded}
use Rattle.kernel_laws.proofs.Lists.{all-at, all-both, all-parts}
use Rattle.bound_laws.proofs.Runs.{nothing-on-its-way}
use Rattle.bound_laws.proofs.Turns.{run-turn-bounded, take-turn-bounded}
use Rattle.bound_laws.proofs.Worlds.{head-is-bounded, to-nodes}
use Rattle.world_limit_laws.specs.Within.{EventsKeepLimits, IsWorldWithin, OpeningWorldsAreWithinLimits}

-- ---- a change

abbrev AreWithin : List Frame → Type 0
AreWithin fs = AllByRecursion IsFrameWithin fs

sent-if : (t : Bool) (f : Frame) → IsFrameWithin f → AreWithin (frame_if t f)
sent-if false f k = tt
sent-if true f k = (k, tt)

sent-with : (to : ℕ) (sends : List (ℕ × Frame)) → AllByRecursion IsSentWithin sends → AreWithin (frames_with to sends)
sent-with to [] all = tt
sent-with to (s ∷ sends) all =
    all-both IsFrameWithin (frame_if (nat_eq to s.0) s.1) (frames_with to sends)
    (sent-if (nat_eq to s.0) s.1 all.0) (sent-with to sends all.1)

sent-by : (t : Bool) (to : ℕ) (sends : List (ℕ × Frame)) → AllByRecursion IsSentWithin sends
    → AreWithin (frames_if t (frames_with to sends))
sent-by false to sends all = tt
sent-by true to sends all = sent-with to sends all

module _ (script : Script) where
  changed-is-within : (w w' : World) (p : ℕ) (n : Node) (takes sends : List (ℕ × Frame)) (entries : List Entry)
      → Changes script p w w' n takes sends entries → IsWorldWithin script w → IsNodeWithin script n
      → AllByRecursion IsSentWithin sends → IsWorldWithin script w'
  changed-is-within w w' p n takes sends entries c k node all =
      record {
        nodes = λ x low high. elim (cases_eq x p) [
          | inl same ↦
              subst (λ y. IsNodeWithin script (node_of w' y)) (sym same) (subst (IsNodeWithin script) (sym c.here) node)
          | inr other ↦ subst (IsNodeWithin script) (sym (c.others x other)) (k.nodes x low high)
        ];
        streams = λ to sender.
            subst AreWithin (sym (c.after to sender))
            (all-both IsFrameWithin (c.left to sender) (sent p sends to sender)
            (all-parts IsFrameWithin (taken p takes to sender) (c.left to sender)
            (subst AreWithin (c.before to sender) (k.streams to sender))).1
            (sent-by (nat_eq sender p) to sends all));
      }

  -- ---- an event

  after-some : (v next : World) (p : ℕ) (o : Option Step) → after_turn v p o ≡ Some next
      → (s : Step) × (o ≡ Some s) × (next ≡ world_after v p s)
  after-some v next p None h = absurd (cc)
  after-some v next p (Some s) h = let same : next ≡ world_after v p s = cc in (s, refl, same)

  module _ (sound : IsSoundScript script) (w next : World) (b : IsShapedAndBounded script w)
      (k : IsWorldWithin script w) where
    run-stays : (p : ℕ) → is_enabled w (events.Run p) ≡ true → step w (events.Run p) ≡ Some next
        → IsWorldWithin script next
    run-stays p enabled steps =
        let r : IsRun script w p = enabled-runs script w p b.shape enabled
        in let after : after_turn w p (run script (node_of w p)) ≡ Some next =
        sym (ap (runs_at w p) (node-there script w b.shape p r.low r.high)
        ∙ ap (λ (x : Script). after_turn w p (run x (node_of w p))) b.shape.of_script)
        ∙ steps
        in let found = after-some w next p (run script (node_of w p)) after
        in let s : Step = found.0
        in let bounded : StepIsBounded script s =
        of-some (StepIsBounded script) (run script (node_of w p)) s
        (run-turn-bounded script sound (node_of w p) (b.bounded.nodes p r.low r.high)) found.1
        in let within : IsStepWithin script s =
        started-within script (node_of w p) s sound (k.nodes p r.low r.high) found.1
        in subst (IsWorldWithin script) (sym found.2)
        (changed-is-within w (world_after w p s) p s.node [] s.sends s.entries
        (changes-by-run script w b.shape p s r.low r.high (to-nodes script s.sends bounded.sends)) k within.node
        within.sends)

    take-stays : (p q : ℕ) → is_enabled w (events.Take p q) ≡ true → step w (events.Take p q) ≡ Some next
        → IsWorldWithin script next
    take-stays p q enabled steps =
        let t : IsTaken script w p q = enabled-takes script w p q b.shape enabled
        in let h : Heads script w p q t.frame t.rest = t.heads
        in let after : after_turn (world_without w p q t.rest) p (take_frame script (node_of w p) q t.frame)
        ≡ Some next =
        sym (turn-with take_frame script w p q t.frame t.rest b.shape h) ∙ steps
        in let found =
        after-some (world_without w p q t.rest) next p (take_frame script (node_of w p) q t.frame) after
        in let s : Step = found.0
        in let bounded : StepIsBounded script s =
        of-some (StepIsBounded script) (take_by_rules script (node_of w p) q t.frame) s
        (take-turn-bounded script (node_of w p) p q t.frame (b.bounded.nodes p h.low h.high)
        (head-is-bounded script w [] p q t.frame t.rest h b.bounded))
        (taken-by-rules script (node_of w p) q t.frame s found.1)
        in let there : AreWithin (t.frame ∷ t.rest) =
        subst AreWithin (frames-low w p q h.low h.low_from ∙ h.head) (k.streams p q)
        in let head : IsFrameWithin t.frame = there.0
        in let within : IsStepWithin script s =
        taken-within script (node_of w p) q t.frame s sound (k.nodes p h.low h.high)
        (sent-has-variables t.frame head) found.1
        in subst (IsWorldWithin script) (sym found.2)
        (changed-is-within w (world_after (world_without w p q t.rest) p s) p s.node ((q, t.frame) ∷ []) s.sends
        s.entries
        (changes-by-take script w b.shape p q t.frame t.rest s h (to-nodes script s.sends bounded.sends)) k within.node
        within.sends)

-- An enabled event leaves a world within limits.
pub event-keeps-limits : EventsKeepLimits
event-keeps-limits script w next (events.Run p) sound b k enabled steps =
    run-stays script sound w next b k p enabled steps
event-keeps-limits script w next (events.Take p q) sound b k enabled steps =
    take-stays script sound w next b k p q enabled steps

-- ---- the opening world

openings-are-within : (script : Script) (ns : List ℕ) → AllByRecursion (IsNodeWithin script) (map opening_node ns)
openings-are-within script [] = tt
openings-are-within script (n ∷ ns) = (opening-within script n, openings-are-within script ns)

opening-of : (script : Script) (p : ℕ) (o : Option Node) → node_at (opening_world script) p ≡ o
    → IsNodeWithin script (unwrap_or o (unborn_node p))
opening-of script p None is = unborn-within script p
opening-of script p (Some n) is =
    all-at (IsNodeWithin script) (map opening_node (numbers 1 (node_count script))) (p - 1) n
    (openings-are-within script (numbers 1 (node_count script))) is

-- At first nothing is on its way.
pub opening-is-within : OpeningWorldsAreWithinLimits
opening-is-within script =
    record {
      nodes = λ p low high.
          subst (IsNodeWithin script)
          (sym (ap (λ t. unwrap_or (if t then node_at (opening_world script) p else None) (unborn_node p))
          (lt-ltb 0 p (omega (arith, low)))))
          (opening-of script p (node_at (opening_world script) p) refl);
      streams = λ to sender. subst AreWithin (sym (nothing-on-its-way script to sender)) tt;
    }
