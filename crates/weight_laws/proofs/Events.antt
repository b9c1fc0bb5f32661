-- An event lowers the weight of a world where its step lowers what its node weighs, with the frames taken and sent and
-- the places of calls.
use Rattle.std.proofs.Common.{◌≡◌, ℕ, false, ◌+◌, ◌-◌, ◌≤◌, ◌<◌, List, Option, Some, None, option_map, refl, ap, sym, subst, ◌∙◌, arith}
use Rattle.pico_base.specs.declared.script.Script.{Script}
use Rattle.pico_base.specs.declared.script.Event.{Event}
use Rattle.pico_base.specs.declared.script.Event.TheVariants as events
use Rattle.rpc_frame.specs.declared.frame.Frame.{Frame}
use Rattle.kernel_laws.proofs.Plain.{from_some, not_some}
use Rattle.world_model.specs.Node.{Node}
use Rattle.world_model.specs.Step.{Step}
use Rattle.world_model.specs.Starting.{run}
use Rattle.world_model.specs.Strikes.{strike}
use Rattle.world_model.specs.Turn.{take_by_kind, take_by_rules}
use Rattle.world_model.specs.World.{World, node_at, node_count, world_after, after_turn, runs_at}
use Rattle.world_laws.specs.ByRules.{step_by_rules}
use Rattle.world_laws.specs.Places.{CallPlace, call_in}
use Rattle.world_laws.specs.Sights.{node_of}
use Rattle.world_laws.specs.Invariant.{IsShaped}
use Rattle.world_laws.proofs.Steps.{Heads, world_without, run-steps, node-there, struck-steps, turn-with, unstruck}
use Rattle.weight_laws.specs.Weights.{Falls, calls_weight, call_weight, node_weight, send_weight, sends_weight, weight}
use Rattle.weight_laws.proofs.Costs.{step_weight}
use Rattle.rule_laws.proofs.own.Moved.{AreStill}
use Rattle.weight_laws.proofs.Sums.{call-moves, calls-woken, sent-all, sum-set, taken-one}

-- a step lowers what the node weighs, with the frame that it takes, and the calls
pub record Lowers (script : Script) (n : Node) (taken : ℕ) (call call_after : ℕ → CallPlace) (s : Step) : Type 0 where
  pub lower : node_weight script s.node + sends_weight s.sends + calls_weight script call_after
      < node_weight script n + taken + calls_weight script call

-- the world after a step
after-step : (script : Script) (w : World) (p taken : ℕ) (n : Node) (s : Step) (call call_after : ℕ → CallPlace)
    → node_at w p ≡ Some n → Lowers script n taken call call_after s
    → weight script (world_after w p s) call_after < weight script w call + taken
after-step script w p taken n s call call_after at l =
    let nodes = sum-set (node_weight script) w.nodes (p - 1) s.node n at
    in let sent = sent-all p w.streams s.sends
    in let low = l.lower
    in omega (arith, nodes, sent, low)

-- whatever step the rule of the frame's kind has lowers the weight, before a strike
abbrev pub TakesLower : Script → World → ℕ → ℕ → Frame → (ℕ → CallPlace) → (ℕ → CallPlace) → Type 0
TakesLower script w p q frame call call_after =
    (s : Step) → take_by_kind script (node_of w p) q frame ≡ Some s
    → Lowers script (node_of w p) (send_weight (p, frame)) call call_after s

-- the strike, which may move calls, too, costs nothing
pub record StrikesLightly (script : Script) (s : Step) (call call_after : ℕ → CallPlace) : Type 0 where
  pub light : step_weight script (strike script s) + calls_weight script call_after
      ≤ step_weight script s + calls_weight script call

-- nor does a step that strikes nobody
pub calm-is-light : (script : Script) (s : Step) (call : ℕ → CallPlace) → s.strikes ≡ false
    → StrikesLightly script s call call
calm-is-light script s call calm =
    let same : step_weight script (strike script s) ≡ step_weight script s =
    ap (step_weight script) (unstruck script s calm)
    in record { light = omega (arith, same) }

struck-lowers : (script : Script) (n : Node) (taken : ℕ) (call mid call_after : ℕ → CallPlace) (s : Step)
    → Lowers script n taken call mid s → StrikesLightly script s mid call_after
    → Lowers script n taken call call_after (strike script s)
struck-lowers script n taken call mid call_after s l strikes =
    let low = l.lower in let light = strikes.light in record { lower = omega (arith, low, light) }

-- A node that takes a frame.
pub take-falls : (script : Script) (w : World) (p q : ℕ) (frame : Frame) (rest : List Frame)
    (call mid call_after : ℕ → CallPlace)
    → IsShaped script w → Heads script w p q frame rest → TakesLower script w p q frame call mid
    → ((s : Step) → take_by_kind script (node_of w p) q frame ≡ Some s → StrikesLightly script s mid call_after)
    → Falls script w (events.Take p q) call call_after
take-falls script w p q frame rest call mid call_after shape h lowers strikes next is =
    by-rule (take_by_kind script (node_of w p) q frame) refl
  where
    by-rule : (o : Option Step) → take_by_kind script (node_of w p) q frame ≡ o
        → weight script next call_after < weight script w call
    by-rule None e =
        let stuck : step_by_rules w (events.Take p q) ≡ None =
        turn-with take_by_rules script w p q frame rest shape h
        ∙ ap (λ o. after_turn (world_without w p q rest) p (option_map (strike script) o)) e
        in not_some next (sym stuck ∙ is)
    by-rule (Some s) e =
        let there : step_by_rules w (events.Take p q)
        ≡ Some (world_after (world_without w p q rest) p (strike script s)) =
        struck-steps script w p q frame rest s shape h e
        in let lower =
        after-step script (world_without w p q rest) p (send_weight (p, frame)) (node_of w p) (strike script s) call
        call_after (node-there script w shape p h.low h.high)
        (struck-lowers script (node_of w p) (send_weight (p, frame)) call mid call_after s (lowers s e) (strikes s e))
        in let fewer = taken-one w.streams p q frame rest h.head
        in subst (λ v. weight script v call_after < weight script w call) (from_some _ _ (sym there ∙ is))
        (omega (arith, lower, fewer))

-- A node that starts a call.
pub run-falls : (script : Script) (w : World) (p : ℕ) (call call_after : ℕ → CallPlace)
    → IsShaped script w → 1 ≤ p → p ≤ node_count script
    → ((s : Step) → run script (node_of w p) ≡ Some s → Lowers script (node_of w p) 0 call call_after s)
    → Falls script w (events.Run p) call call_after
run-falls script w p call call_after shape low high lowers next is =
    by-rule (run script (node_of w p)) refl
  where
    by-rule : (o : Option Step) → run script (node_of w p) ≡ o
        → weight script next call_after < weight script w call
    by-rule None e =
        let stuck : step_by_rules w (events.Run p) ≡ None =
        ap (runs_at w p) (node-there script w shape p low high)
        ∙ ap (after_turn w p)
        (ap (λ x. run x (node_of w p)) shape.of_script ∙ e)
        in not_some next (sym stuck ∙ is)
    by-rule (Some s) e =
        let there : step_by_rules w (events.Run p) ≡ Some (world_after w p s) = run-steps script w p s shape low high e
        in let lower =
        after-step script w p 0 (node_of w p) s call call_after (node-there script w shape p low high) (lowers s e)
        in subst (λ v. weight script v call_after < weight script w call) (from_some _ _ (sym there ∙ is))
        (omega (arith, lower))

-- no call is in another place
pub lowers-still : (script : Script) (n : Node) (taken : ℕ) (call : ℕ → CallPlace) (s : Step)
    → node_weight script s.node + sends_weight s.sends < node_weight script n + taken
    → Lowers script n taken call call s
lowers-still script n taken call s low = record { lower = omega (arith, low) }

-- one is
pub lowers-moved : (script : Script) (n : Node) (taken : ℕ) (call : ℕ → CallPlace) (p : ℕ) (was place : CallPlace)
    (s : Step) → 1 ≤ p → p ≤ node_count script → call p ≡ was
    → node_weight script s.node + sends_weight s.sends + call_weight place
    < node_weight script n + taken + call_weight was
    → Lowers script n taken call (call_in call p place) s
lowers-moved script n taken call p was place s low_p high_p is low =
    let moved = call-moves script call p place low_p high_p
    in let old : call_weight (call p) ≡ call_weight was = ap call_weight is
    in record { lower = omega (arith, low, moved, old) }

-- the same with calls that are in the same places, or are woken

pub lowers-woken : (script : Script) (n : Node) (taken : ℕ) (call call_after other : ℕ → CallPlace) (s : Step)
    → AreStill call_after other → Lowers script n taken call call_after s → Lowers script n taken call other s
lowers-woken script n taken call call_after other s still l =
    let low = l.lower in let fewer =
    calls-woken script call_after other still in record { lower = omega (arith, low, fewer) }

-- a frame that lowers the weight lowers it with those places, too
pub takes-woken : (script : Script) (w : World) (p q : ℕ) (frame : Frame) (call call_after other : ℕ → CallPlace)
    → AreStill call_after other → TakesLower script w p q frame call call_after
    → TakesLower script w p q frame call other
takes-woken script w p q frame call call_after other still lowers s is =
    lowers-woken script (node_of w p) (send_weight (p, frame)) call call_after other s still (lowers s is)

-- and so does an event
pub falls-woken : (script : Script) (w : World) (e : Event) (call call_after other : ℕ → CallPlace)
    → AreStill call_after other → Falls script w e call call_after → Falls script w e call other
falls-woken script w e call call_after other still falls next is =
    let low = falls next is in let fewer = calls-woken script call_after other still in omega (arith, low, fewer)
