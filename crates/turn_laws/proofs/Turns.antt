-- A turn in a world that a run leads to is an event of that world, and what it leads to is a world of a run.
use Rattle.std.proofs.Common.{◌≡◌, ℕ, Bool, true, ◌&&◌, ◌||◌, List, [], ◌∷◌, ◌++◌, Some, refl, ap, sym, subst, ◌∙◌}
use Rattle.std.proofs.lemmas.Bool.{lt-ltb}
use Rattle.pico_base.specs.declared.script.Event.{Event}
use Rattle.pico_base.specs.declared.script.Script.{Script}
use Rattle.rpc_frame.specs.declared.frame.Frame.{Frame}
use Rattle.kernel_laws.proofs.Plain.{from_some, if-some, of-some}
use Rattle.kernel_model.specs.Script.{IsSoundScript}
use Rattle.world_model.specs.Node.{Node, can_run, is_born}
use Rattle.world_model.specs.Run.{IsReachableWorld, Runs as EventsLead}
use Rattle.world_model.specs.Starting.{run}
use Rattle.world_model.specs.Step.{Step}
use Rattle.world_model.specs.Turn.{take_by_rules, take_frame}
use Rattle.world_laws.proofs.ByRules.{taken-by-rules}
use Rattle.world_model.specs.World.{IsNode, World, is_checkpoint, is_enabled, is_number, is_run_enabled, is_take_enabled, node_at, opening_world, step, stream, world_after}
use Rattle.world_laws.specs.Sights.{node_of}
use Rattle.world_laws.proofs.Changes.{Changes}
use Rattle.world_laws.proofs.Steps.{Heads, changes-by-run, changes-by-take, node-there, run-steps, taken-steps, world_without}
use Rattle.bound_laws.specs.Bounded.{IsShapedAndBounded, StepIsBounded}
use Rattle.bound_laws.proofs.Runs.{reachable-is-bounded}
use Rattle.bound_laws.proofs.Turns.{run-turn-bounded, take-turn-bounded}
use Rattle.bound_laws.proofs.Worlds.{head-is-bounded, to-nodes}
use Rattle.log_laws.specs.Logs.{Input, Runs, Takes, StampedFrame, turn_on}
use Rattle.log_laws.specs.Merge.{event_at}
use Rattle.log_laws.specs.Follows.{StandsFirst}
use Rattle.turn_laws.specs.Laws.{IsTurnIn, may_turn}

both-true : (a b : Bool) → a ≡ true → b ≡ true → (a && b) ≡ true
both-true a b h g = rw (h, g) refl

-- ---- a run with one more event

-- a run goes on by an enabled event
pub runs-more : (es : List Event) (w mid next : World) (e : Event) → EventsLead w es mid → is_enabled mid e ≡ true
    → step mid e ≡ Some next → EventsLead w (es ++ e ∷ []) next
runs-more [] w mid next e so_far enabled steps =
    subst (λ v. EventsLead v (e ∷ []) next) (sym so_far)
    (record { enabled = enabled; next = next; steps = steps; rest = refl })
runs-more (first ∷ es) w mid next e so_far enabled steps =
    record {
      enabled = so_far.enabled;
      next = so_far.next;
      steps = so_far.steps;
      rest = runs-more es so_far.next mid next e so_far.rest enabled steps;
    }

-- A world that an event leads to from one of a run is one of a run.
pub reachable-more : (script : Script) (w next : World) (e : Event) → IsReachableWorld script w
    → is_enabled w e ≡ true → step w e ≡ Some next → IsReachableWorld script next
reachable-more script w next e run enabled steps =
    (run.0 ++ e ∷ [], runs-more run.0 (opening_world script) w next e run.1 enabled steps)

-- ---- a turn as an event

-- the frame that a turn takes, with its sender
abbrev pub taken_by : Input → List (ℕ × Frame)
taken_by Runs = []
taken_by (Takes from taken) = (from, taken.frame) ∷ []

-- the world that a turn leads to
pub record LeadsOn (script : Script) (w : World) (p : ℕ) (input : Input) (s : Step) : Type 0 where
  pub next : World
  pub enabled : is_enabled w (event_at p input) ≡ true
  pub steps : step w (event_at p input) ≡ Some next
  pub changes : Changes script p w next s.node (taken_by input) s.sends s.entries
  pub bounded : StepIsBounded script s

module _ (script : Script) (sound : IsSoundScript script) (w : World) (p : ℕ) (n : Node) where
  -- a node that a world shows is the one at its place
  pub node-shown : (input : Input) → IsTurnIn script w p n input → node_of w p ≡ n
  node-shown input t =
      let k : IsShapedAndBounded script w = reachable-is-bounded script sound w t.reachable
      in let own : IsNode script p = t.is_node
      in from_some (node_of w p) n (sym (node-there script w k.shape p own.low own.high) ∙ t.node)

  -- A turn that may be made is an enabled event.
  pub turn-enabled : (input : Input) → IsTurnIn script w p n input → may_turn n input ≡ true
      → is_enabled w (event_at p input) ≡ true
  turn-enabled Runs t may =
      let own : IsNode script p = t.is_node
      in both-true (is_number p) (is_run_enabled (node_at w p)) (lt-ltb 0 p own.low) (ap is_run_enabled t.node ∙ may)
  turn-enabled (Takes from taken) t may =
      let own : IsNode script p = t.is_node
      in let f : StandsFirst script w p from taken.frame = t.there
      in let sender : IsNode script from = f.sender
      in both-true (is_number p && is_number from) (is_take_enabled (node_at w p) (stream w p from))
      (both-true (is_number p) (is_number from) (lt-ltb 0 p own.low) (lt-ltb 0 from sender.low))
      (ap (λ o. is_take_enabled o (stream w p from)) t.node ∙ ap (is_take_enabled (Some n)) f.first ∙ may)

  run-leads : (s : Step) → IsTurnIn script w p n Runs → turn_on script n Runs ≡ Some s → LeadsOn script w p Runs s
  run-leads s t turned =
      let k : IsShapedAndBounded script w = reachable-is-bounded script sound w t.reachable
      in let own : IsNode script p = t.is_node
      in let made = if-some (can_run n) (run script n) s turned
      in let rule : run script (node_of w p) ≡ Some s = ap (run script) (node-shown Runs t) ∙ made.1
      in let bounded : StepIsBounded script s =
      of-some (StepIsBounded script) (run script (node_of w p)) s
      (run-turn-bounded script sound (node_of w p) (k.bounded.nodes p own.low own.high)) rule
      in record {
        next = world_after w p s;
        enabled = turn-enabled Runs t made.0;
        steps = run-steps script w p s k.shape own.low own.high rule;
        changes =
            changes-by-run script w k.shape p s own.low own.high (to-nodes script s.sends bounded.sends);
        bounded = bounded;
      }

  take-leads : (from : ℕ) (taken : StampedFrame) (s : Step) → IsTurnIn script w p n (Takes from taken)
      → turn_on script n (Takes from taken) ≡ Some s → LeadsOn script w p (Takes from taken) s
  take-leads from taken s t turned =
      let k : IsShapedAndBounded script w = reachable-is-bounded script sound w t.reachable
      in let own : IsNode script p = t.is_node
      in let f : StandsFirst script w p from taken.frame = t.there
      in let sender : IsNode script from = f.sender
      in let frame : Frame = taken.frame
      in let h : Heads script w p from frame f.rest =
      record {
        low = own.low;
        high = own.high;
        low_from = sender.low;
        high_from = sender.high;
        head = f.first;
      }
      in let made = if-some (is_born n || is_checkpoint frame) (take_frame script n from frame) s turned
      in let rule : take_frame script (node_of w p) from frame ≡ Some s =
      ap (λ m. take_frame script m from frame) (node-shown (Takes from taken) t) ∙ made.1
      in let bounded : StepIsBounded script s =
      of-some (StepIsBounded script) (take_by_rules script (node_of w p) from frame) s
      (take-turn-bounded script (node_of w p) p from frame (k.bounded.nodes p own.low own.high)
      (head-is-bounded script w [] p from frame f.rest h k.bounded))
      (taken-by-rules script (node_of w p) from frame s rule)
      in record {
        next = world_after (world_without w p from f.rest) p s;
        enabled = turn-enabled (Takes from taken) t made.0;
        steps = taken-steps script w p from frame f.rest s k.shape h rule;
        changes =
            changes-by-take script w k.shape p from frame f.rest s h (to-nodes script s.sends bounded.sends);
        bounded = bounded;
      }

  -- A turn is an event of the world.
  pub turn-leads : (input : Input) (s : Step) → IsTurnIn script w p n input → turn_on script n input ≡ Some s
      → LeadsOn script w p input s
  turn-leads Runs s t turned = run-leads s t turned
  turn-leads (Takes from taken) s t turned = take-leads from taken s t turned
