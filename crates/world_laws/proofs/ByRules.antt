-- Where the machine has a step it is the rules' step, and where the frame may come the rules' step is the machine's.
use Rattle.std.proofs.Common.{◌≡◌, ℕ, Bool, true, false, if◌then◌else◌, List, [], ◌∷◌, Option, Some, None, option_map, refl, ap, sym, ◌∙◌}
use Rattle.pico_base.specs.declared.script.Event.{Event}
use Rattle.pico_base.specs.declared.script.Event.TheVariants as events
use Rattle.pico_base.specs.declared.script.Script.{Script}
use Rattle.rpc_frame.specs.declared.frame.Frame.{Frame}
use Rattle.kernel_laws.proofs.Plain.{from_some, if-some, not_some}
use Rattle.world_model.specs.Node.{Node}
use Rattle.world_model.specs.Step.{Step}
use Rattle.world_model.specs.Turn.{may_come, take_by_kind, take_by_rules, take_frame}
use Rattle.world_model.specs.Strikes.{strike}
use Rattle.world_model.specs.World.{World, after_turn, node_at, step, stream, takes_at, takes_with}
use Rattle.world_laws.specs.ByRules.{step_by_rules}
use Rattle.world_laws.specs.Invariant.{IsShaped}
use Rattle.world_laws.specs.Sights.{node_of}
use Rattle.world_laws.proofs.Steps.{Heads, turn-with, world_without}

-- A frame's step is the rules'.
pub taken-by-rules : (script : Script) (n : Node) (from : ℕ) (frame : Frame) (s : Step)
    → take_frame script n from frame ≡ Some s → take_by_rules script n from frame ≡ Some s
taken-by-rules script n from frame s h = (if-some (may_come n from frame) (take_by_rules script n from frame) s h).1

-- A frame that may come has the rules' step.
pub come-by-take : (script : Script) (n : Node) (from : ℕ) (frame : Frame) → may_come n from frame ≡ true
    → take_frame script n from frame ≡ take_by_rules script n from frame
come-by-take script n from frame may = ap (λ t. if t then take_by_rules script n from frame else None) may

-- The step of the frame's kind, and then the strike.
pub record IsStruck (script : Script) (n : Node) (from : ℕ) (frame : Frame) (s : Step) : Type 0 where
  pub step : Step
  pub of_kind : take_by_kind script n from frame ≡ Some step
  pub is : s ≡ strike script step

map-some : {A B : Type 0} (f : A → B) (o : Option A) (y : B) → option_map f o ≡ Some y
    → (x : A) × (o ≡ Some x) × (f x ≡ y)
map-some f None y h = not_some y h
map-some f (Some x) y h = (x, refl, from_some (f x) y h)

-- A frame's step is that of its kind, with the strike last.
pub taken-by-kind : (script : Script) (n : Node) (from : ℕ) (frame : Frame) (s : Step)
    → take_frame script n from frame ≡ Some s → IsStruck script n from frame s
taken-by-kind script n from frame s h =
    let m = map-some (strike script) (take_by_kind script n from frame) s (taken-by-rules script n from frame s h)
    in record { step = m.0; of_kind = m.1; is = sym m.2 }

after-some-is : (v next : World) (p : ℕ) (test : Bool) (o : Option Step)
    → after_turn v p (if test then o else None) ≡ Some next → after_turn v p o ≡ Some next
after-some-is v next p true o h = h
after-some-is v next p false o h = absurd (cc)

-- A step of the machine is the rules' step.
pub step-is-by-rules : (w next : World) (e : Event) → step w e ≡ Some next → step_by_rules w e ≡ Some next
step-is-by-rules w next (events.Run p) h = h
step-is-by-rules w next (events.Take p from) h = by-node (node_at w p) (stream w p from) h
  where
    by-node : (o : Option Node) (frames : List Frame) → takes_at w p from o frames ≡ Some next
        → takes_with take_by_rules w p from o frames ≡ Some next
    by-node None frames h = h
    by-node (Some n) [] h = h
    by-node (Some n) (frame ∷ rest) h =
        after-some-is (world_without w p from rest) next p (may_come n from frame)
        (take_by_rules w.script n from frame) h

-- Where the first frame may come, the rules' step is the machine's.
pub come-by-rules : (script : Script) (w : World) (p q : ℕ) (frame : Frame) (rest : List Frame) → IsShaped script w
    → Heads script w p q frame rest → may_come (node_of w p) q frame ≡ true
    → step w (events.Take p q) ≡ step_by_rules w (events.Take p q)
come-by-rules script w p q frame rest shape h may =
    turn-with take_frame script w p q frame rest shape h
    ∙ ap (after_turn (world_without w p q rest) p) (come-by-take script (node_of w p) q frame may)
    ∙ sym (turn-with take_by_rules script w p q frame rest shape h)
