-- Bounds stay in every event of the world, and in its middle.
use Rattle.std.proofs.Common.{◌≡◌, ℕ, Bool, true, false, nat_eq, List, [], ◌∷◌, Option, Some, None, refl, ap, sym, subst, ◌∙◌, inl, inr}
use Rattle.std.specs.List.{AllByRecursion}
use Rattle.std.proofs.lemmas.Bool.{cases_eq, eqb-true}
use Rattle.pico_base.specs.declared.reply.Entry.{Entry}
use Rattle.pico_base.specs.declared.script.Event.{Event}
use Rattle.pico_base.specs.declared.script.Event.TheVariants as events
use Rattle.pico_base.specs.declared.script.Script.{Script}
use Rattle.rpc_frame.specs.declared.frame.Frame.{Frame}
use Rattle.kernel_model.specs.Script.{IsSoundScript}
use Rattle.node_model.specs.declared.held.Held.{Held}
use Rattle.world_model.specs.Node.{Node}
use Rattle.world_model.specs.Step.{Step, step_to}
use Rattle.world_model.specs.Starting.{run}
use Rattle.world_model.specs.Turn.{take_frame, take_by_rules}
use Rattle.world_laws.proofs.ByRules.{taken-by-rules}
use Rattle.world_model.specs.World.{IsNode, World, after_turn, is_enabled, node_count, runs_at, step, world_after}
use Rattle.world_laws.specs.Invariant.{IsShaped}
use Rattle.world_laws.specs.Sights.{node_of}
use Rattle.world_laws.proofs.Changes.{Changes, frames_if, sent, taken}
use Rattle.world_laws.proofs.Sends.{AreToNodes, frame_if, frames_with}
use Rattle.world_laws.proofs.Steps.{Heads, changes-by-run, changes-by-take, frames-low, node-there, turn-with, world_without}
use Rattle.rule_laws.proofs.own.Enabled.{IsRun, enabled-runs}
use Rattle.rule_laws.proofs.Enabled.{IsTaken, enabled-takes}
use Rattle.bound_laws.specs.Bounded.{FrameIsBounded, IsBounded, IsShapedAndBounded, ItemsAreOfNodes, NodeIsBounded, SendIsBounded, StepIsBounded}
use Rattle.kernel_laws.proofs.Plain.{of-some}
use Rattle.kernel_laws.proofs.Lists.{all-both, all-parts}
use Rattle.bound_laws.proofs.Turns.{run-turn-bounded, take-turn-bounded}

module _ (script : Script) where
  -- ---- what a node sent

  -- what it sent goes to nodes
  pub to-nodes : (sends : List (ℕ × Frame)) → AllByRecursion (SendIsBounded script) sends
      → AreToNodes (node_count script) sends
  to-nodes [] all = tt
  to-nodes (s ∷ sends) all =
      let first : SendIsBounded script s = all.0
      in let receiver : IsNode script s.0 = first.receiver
      in (record { low = receiver.low; high = receiver.high }, to-nodes sends all.1)

  sent-if : (to sender : ℕ) (s : ℕ × Frame) → SendIsBounded script s → IsNode script sender
      → AllByRecursion (FrameIsBounded script to sender) (frame_if (nat_eq to s.0) s.1)
  sent-if to sender s b own = by (nat_eq to s.0) refl
    where
      by : (t : Bool) → nat_eq to s.0 ≡ t → AllByRecursion (FrameIsBounded script to sender) (frame_if t s.1)
      by false e = tt
      by true e = (
        record {
          receiver = subst (IsNode script) (sym (eqb-true to s.0 e)) b.receiver;
          sender_is = own;
          says = b.says;
        },
        tt,
      )

  sent-with : (to sender : ℕ) (sends : List (ℕ × Frame)) → AllByRecursion (SendIsBounded script) sends
      → IsNode script sender → AllByRecursion (FrameIsBounded script to sender) (frames_with to sends)
  sent-with to sender [] all own = tt
  sent-with to sender (s ∷ sends) all own =
      all-both (FrameIsBounded script to sender) (frame_if (nat_eq to s.0) s.1) (frames_with to sends)
      (sent-if to sender s all.0 own) (sent-with to sender sends all.1 own)

  sent-by : (p to sender : ℕ) (sends : List (ℕ × Frame)) → AllByRecursion (SendIsBounded script) sends
      → IsNode script p → AllByRecursion (FrameIsBounded script to sender) (sent p sends to sender)
  sent-by p to sender sends all own = by (nat_eq sender p) refl
    where
      by : (t : Bool) → nat_eq sender p ≡ t
          → AllByRecursion (FrameIsBounded script to sender) (frames_if t (frames_with to sends))
      by false e = tt
      by true e =
          sent-with to sender sends all (subst (IsNode script) (sym (eqb-true sender p e)) own)

  -- ---- a change

  -- A bounded node that has sent bounded frames leaves the world bounded, with any calls of nodes in hand.
  pub changed-is-bounded : (w w' : World) (hand hand' : List Held) (p : ℕ) (n : Node) (takes sends : List (ℕ × Frame))
      (entries : List Entry) → Changes script p w w' n takes sends entries → IsNode script p
      → IsBounded script w hand → NodeIsBounded script n → AllByRecursion (SendIsBounded script) sends
      → ItemsAreOfNodes script hand' → IsBounded script w' hand'
  changed-is-bounded w w' hand hand' p n takes sends entries c own k node all items =
      record {
        nodes = λ x low high. elim (cases_eq x p) [
          | inl same ↦
              subst (λ y. NodeIsBounded script (node_of w' y)) (sym same)
              (subst (NodeIsBounded script) (sym c.here) node)
          | inr other ↦ subst (NodeIsBounded script) (sym (c.others x other)) (k.nodes x low high)
        ];
        streams = λ to sender.
            subst (AllByRecursion (FrameIsBounded script to sender)) (sym (c.after to sender))
            (all-both (FrameIsBounded script to sender) (c.left to sender) (sent p sends to sender)
            (all-parts (FrameIsBounded script to sender) (taken p takes to sender) (c.left to sender)
            (subst (AllByRecursion (FrameIsBounded script to sender)) (c.before to sender) (k.streams to sender))).1
            (sent-by p to sender sends all own));
        in_hand = items;
      }

  -- In the middle of an event, too.
  pub middle-is-bounded : (v : World) (hand hand' : List Held) (p : ℕ) (s : Step) → IsShaped script v
      → IsBounded script v hand → IsNode script p → StepIsBounded script s → ItemsAreOfNodes script hand'
      → IsBounded script (world_after v p s) hand'
  middle-is-bounded v hand hand' p s shape k own b items =
      changed-is-bounded v (world_after v p s) hand hand' p s.node [] s.sends s.entries
      (changes-by-run script v shape p s own.low own.high (to-nodes s.sends b.sends)) own k b.node b.sends items

  -- ---- a frame is taken

  -- a world without the frame that was taken has its shape
  pub without-is-shaped : (w : World) (p q : ℕ) (frame : Frame) (rest : List Frame) → IsShaped script w
      → Heads script w p q frame rest → IsShaped script (world_without w p q rest)
  without-is-shaped w p q frame rest shape h =
      let c : Changes script p w (world_after (world_without w p q rest) p (step_to (node_of w p))) (node_of w p)
      ((q, frame) ∷ []) [] [] =
      changes-by-take script w shape p q frame rest (step_to (node_of w p)) h tt
      in let after : IsShaped script (world_after (world_without w p q rest) p (step_to (node_of w p))) = c.shape
      in record {
        of_script = shape.of_script;
        nodes = shape.nodes;
        rows = after.rows;
        row = after.row;
        tries = shape.tries;
      }

  -- and its bounds
  pub without-is-bounded : (w : World) (hand : List Held) (p q : ℕ) (frame : Frame) (rest : List Frame)
      → IsShaped script w → Heads script w p q frame rest → IsBounded script w hand
      → IsBounded script (world_without w p q rest) hand
  without-is-bounded w hand p q frame rest shape h k =
      let c : Changes script p w (world_after (world_without w p q rest) p (step_to (node_of w p))) (node_of w p)
      ((q, frame) ∷ []) [] [] =
      changes-by-take script w shape p q frame rest (step_to (node_of w p)) h tt
      in let after : IsBounded script (world_after (world_without w p q rest) p (step_to (node_of w p))) hand =
      changed-is-bounded w (world_after (world_without w p q rest) p (step_to (node_of w p))) hand hand p (node_of w p)
      ((q, frame) ∷ []) [] [] c (record { low = h.low; high = h.high }) k (k.nodes p h.low h.high) tt k.in_hand
      in record { nodes = k.nodes; streams = after.streams; in_hand = k.in_hand }

  -- the frame at the head of a stream
  pub head-is-bounded : (w : World) (hand : List Held) (p q : ℕ) (frame : Frame) (rest : List Frame)
      → Heads script w p q frame rest → IsBounded script w hand → FrameIsBounded script p q frame
  head-is-bounded w hand p q frame rest h k =
      (subst (AllByRecursion (FrameIsBounded script p q)) (frames-low w p q h.low h.low_from ∙ h.head)
      (k.streams p q)).0

  -- ---- an event

  by-changes : (w w' : World) (p : ℕ) (s : Step) (takes : List (ℕ × Frame))
      → Changes script p w w' s.node takes s.sends s.entries → IsNode script p → IsBounded script w []
      → StepIsBounded script s → IsShapedAndBounded script w'
  by-changes w w' p s takes c own k b =
      record {
        shape = c.shape;
        bounded = changed-is-bounded w w' [] [] p s.node takes s.sends s.entries c own k b.node b.sends tt;
      }

  after-some : (v next : World) (p : ℕ) (o : Option Step) → after_turn v p o ≡ Some next
      → (s : Step) × (o ≡ Some s) × (next ≡ world_after v p s)
  after-some v next p None h = absurd (cc)
  after-some v next p (Some s) h = let same : next ≡ world_after v p s = cc in (s, refl, same)

  module _ (sound : IsSoundScript script) (w next : World) (k : IsShapedAndBounded script w) where
    run-stays : (p : ℕ) → is_enabled w (events.Run p) ≡ true → step w (events.Run p) ≡ Some next
        → IsShapedAndBounded script next
    run-stays p enabled steps =
        let r : IsRun script w p = enabled-runs script w p k.shape enabled
        in let own : IsNode script p = record { low = r.low; high = r.high }
        in let after : after_turn w p (run script (node_of w p)) ≡ Some next =
        sym (ap (runs_at w p) (node-there script w k.shape p r.low r.high)
        ∙ ap (λ (x : Script). after_turn w p (run x (node_of w p))) k.shape.of_script)
        ∙ steps
        in let found = after-some w next p (run script (node_of w p)) after
        in let b : StepIsBounded script found.0 =
        of-some (StepIsBounded script) (run script (node_of w p)) found.0
        (run-turn-bounded script sound (node_of w p) (k.bounded.nodes p r.low r.high)) found.1
        in subst (IsShapedAndBounded script) (sym found.2)
        (by-changes w (world_after w p found.0) p found.0 []
        (changes-by-run script w k.shape p found.0 r.low r.high (to-nodes (found.0).sends b.sends)) own k.bounded b)

    take-stays : (p q : ℕ) → is_enabled w (events.Take p q) ≡ true → step w (events.Take p q) ≡ Some next
        → IsShapedAndBounded script next
    take-stays p q enabled steps =
        let t : IsTaken script w p q = enabled-takes script w p q k.shape enabled
        in let h : Heads script w p q t.frame t.rest = t.heads
        in let own : IsNode script p = record { low = h.low; high = h.high }
        in let after : after_turn (world_without w p q t.rest) p (take_frame script (node_of w p) q t.frame)
        ≡ Some next =
        sym (turn-with take_frame script w p q t.frame t.rest k.shape h) ∙ steps
        in let found =
        after-some (world_without w p q t.rest) next p (take_frame script (node_of w p) q t.frame) after
        in let b : StepIsBounded script found.0 =
        of-some (StepIsBounded script) (take_by_rules script (node_of w p) q t.frame) found.0
        (take-turn-bounded script (node_of w p) p q t.frame (k.bounded.nodes p h.low h.high)
        (head-is-bounded w [] p q t.frame t.rest h k.bounded))
        (taken-by-rules script (node_of w p) q t.frame found.0 found.1)
        in subst (IsShapedAndBounded script) (sym found.2)
        (by-changes w (world_after (world_without w p q t.rest) p found.0) p found.0 ((q, t.frame) ∷ [])
        (changes-by-take script w k.shape p q t.frame t.rest found.0 h (to-nodes (found.0).sends b.sends)) own
        k.bounded b)

    -- Every enabled event of a sound script leaves a bounded world.
    pub event-stays-bounded : (e : Event) → is_enabled w e ≡ true → step w e ≡ Some next
        → IsShapedAndBounded script next
    event-stays-bounded (events.Run p) enabled steps = run-stays p enabled steps
    event-stays-bounded (events.Take p q) enabled steps = take-stays p q enabled steps
