-- An enabled event of a run has a step, so the node that it is of has a turn.
use Rattle.std.proofs.Common.{◌≡◌, ℕ, ◌-◌, ◌<◌, List, [], ◌∷◌, length, get_or, Option, Some, None, IfSome, IsSome, refl, sym, ap, subst, ◌∙◌}
use Rattle.std.proofs.lemmas.List.{get_or_read}
use Rattle.pico_base.specs.declared.script.Event.{Event}
use Rattle.pico_base.specs.declared.script.Event.TheVariants as events
use Rattle.rpc_frame.specs.declared.frame.Frame.{Frame}
use Rattle.world_model.specs.Node.{Node}
use Rattle.world_model.specs.Step.{Step}
use Rattle.world_model.specs.Starting.{run}
use Rattle.world_model.specs.Turn.{take_frame}
use Rattle.world_model.specs.World.{World, node_at, stream, with_stream, after_turn, runs_at, takes_at, step}
use Rattle.node_core.specs.declared.turn.Input.TheVariants as inputs
use Rattle.node_core.specs.Step.{step_of}
use Rattle.world_core.specs.Inbox.{IsTaken}
use Rattle.node_core.proofs.Turned.{step_of-run, step_of-take}

turn_some : (w : World) (p : ℕ) (turn : Option Step) → IsSome (after_turn w p turn) → IsSome turn
turn_some w p None some = some
turn_some w p (Some s) some = refl

run_some : (w : World) (p : ℕ) (o : Option Node) → IsSome (runs_at w p o)
    → IfSome o (λ n. IsSome (step_of w.script n inputs.Run))
run_some w p None some = tt
run_some w p (Some n) some =
    subst (λ (t : Option Step). IsSome t) (sym (step_of-run w.script n)) (turn_some w p (run w.script n) some)

-- the node's call has a rule
pub run_allowed : (w : World) (e : Event) (p : ℕ) → IsSome (step w e) → e ≡ events.Run p
    → IfSome (node_at w p) (λ n. IsSome (step_of w.script n inputs.Run))
run_allowed w e p some is = run_some w p (node_at w p) (subst (λ (x : Event). IsSome (step w x)) is some)

take_some : (w : World) (p from : ℕ) (o : Option Node) (frame : Frame) (left : List Frame)
    → IsSome (takes_at w p from o (frame ∷ left))
    → IfSome o (λ n. IsSome (step_of w.script n (inputs.Take from frame)))
take_some w p from None frame left some = tt
take_some w p from (Some n) frame left some =
    subst (λ (t : Option Step). IsSome t) (sym (step_of-take w.script n from frame))
    (turn_some (record w { streams = with_stream w.streams p from left }) p (take_frame w.script n from frame) some)

-- the frame that was taken has a rule
pub take_allowed : (w : World) (e : Event) (p from k : ℕ) (frame : Frame) (row new : List (List Frame))
    → IsSome (step w e)
    → e ≡ events.Take p from → k ≡ p - 1 → k < length w.streams → row ≡ get_or w.streams k row
    → IsTaken row from (Some frame) new
    → IfSome (node_at w p) (λ n. IsSome (step_of w.script n (inputs.Take from frame)))
take_allowed w e p from k frame row new some is place lt row_is taken =
    let at : row ≡ get_or w.streams (p - 1) [] =
    get_or_read w.streams k row lt row_is [] ∙ ap (λ j. get_or w.streams j []) place
    in let first : stream w p from ≡ frame ∷ taken.0 =
    sym (ap (λ (r : List (List Frame)). get_or r (from - 1) []) at) ∙ taken.1
    in let there : IsSome (takes_at w p from (node_at w p) (stream w p from)) =
    subst (λ (x : Event). IsSome (step w x)) is some
    in take_some w p from (node_at w p) frame taken.0
    (subst (λ (fs : List Frame). IsSome (takes_at w p from (node_at w p) fs)) first there)
