-- The middle of an event, in which a signal may have struck the node's process: what holds then, and what the rule of a
-- frame's kind comes to.
use Rattle.std.proofs.Common.{◌≡◌, ℕ, Bool, true, false, List, [], ◌∷◌, Some, ap}
use Rattle.std.specs.Option.{option_map_or}
use Rattle.pico_base.specs.declared.numbers.Name.{Name}
use Rattle.pico_base.specs.declared.script.Script.{Script}
use Rattle.rpc_frame.specs.declared.asked.Asked.{Asked}
use Rattle.rpc_frame.specs.declared.frame.Frame.{Frame}
use Rattle.node_model.specs.declared.held.Held.{Held}
use Rattle.node_model.specs.Serving.{serve, waiting_as}
use Rattle.world_model.specs.Node.{Node}
use Rattle.world_model.specs.Step.{Step}
use Rattle.world_model.specs.Turn.{take_by_kind}
use Rattle.world_model.specs.World.{World, world_after}
use Rattle.world_laws.specs.Places.{CallPlace, Waits, Beside}
use Rattle.world_laws.specs.Sights.{node_of}
use Rattle.world_laws.specs.Cancels.{owing_of, AStrike, CancelIf, Nothing, Owing, Wakes, cancel_sight}
use Rattle.world_laws.specs.Invariant.{HoldsOwing}
use Rattle.world_laws.proofs.Steps.{world_without}
use Rattle.rule_laws.proofs.own.Moved.{IsCarriedOut}
use Rattle.waiting_model.specs.Kernel.{living_at}
use Rattle.node_model.specs.Caller.{Caller}
use Rattle.world_laws.specs.Callers.{CallHolds, call_sight}
use Rattle.world_laws.proofs.Cancels.{still-owed}
use Rattle.world_laws.proofs.Following.{CallGoesOn}
use Rattle.world_laws.proofs.GoingOn.{cancel-goes-on}

-- After this step of node p, which began in this world, all holds with these items in hand, but for the strike that the
-- step owes.
abbrev pub HoldsAt : Script → World → ℕ → Step → List Held → Beside → Type 0
HoldsAt script v p s hand b = HoldsOwing script (world_after v p s) hand (owing_of p s.strikes) b

-- The rule of a frame's kind has a step, after which all holds with nothing in hand. The strike comes behind it.
pub record KeepsByRule (script : Script) (w : World) (p q : ℕ) (frame : Frame) (rest : List Frame)
    (b : Beside) : Type 0 where
  pub step : Step
  pub is_step : take_by_kind script (node_of w p) q frame ≡ Some step
  pub holds : HoldsAt script (world_without w p q rest) p step [] b

-- and leaves calls in such places
pub record RuleKeeps (script : Script) (w : World) (p q : ℕ) (frame : Frame) (rest : List Frame)
    (After : (ℕ → CallPlace) → Type 0) : Type 0 where
  pub beside : Beside
  pub keeps : KeepsByRule script w p q frame rest beside
  pub after : After beside.call

-- ---- calls that are served

-- nobody is listed
abbrev pub is_empty : {A : Type 0} → List A → Bool
is_empty [] = true
is_empty (x ∷ xs) = false

-- as the node serves the call, nobody reads
abbrev pub nobody_reads : Node → Asked → Bool
nobody_reads n asked = option_map_or (λ s. is_empty s.readers) (serve n.deeds (waiting_as asked)) true

-- Where a call is that the node has served: its reply is on its way, or it is over; or it waits there, and nobody
-- reads.
pub data IsServedPlace (n : Node) (asked : Asked) (place : CallPlace) : Type 0 where
  has_reply : IsCarriedOut place → IsServedPlace n asked place
  waits_there : (name : Name) → place ≡ Waits name → nobody_reads n asked ≡ true → IsServedPlace n asked place

-- ---- withdrawals

-- A withdrawal stays behind its call as that goes on, whatever is owed.
pub cancel-if-goes-on : (script : Script) (p : ℕ) (born more : ℕ → Bool) (owes : Owing) (w w' : World)
    (hand hand' : List Held) (b b' : Beside)
    → CallGoesOn p (cancel_sight w hand b p) (cancel_sight w' hand' b' p)
    → living_at b.whole (b.pids p) ≡ living_at b'.whole (b'.pids p)
    → CallHolds script p born (call_sight w hand b p) → CallHolds script p more (call_sight w' hand' b' p)
    → CancelIf p owes (cancel_sight w hand b p) → CancelIf p owes (cancel_sight w' hand' b' p)
cancel-if-goes-on script p born more Nothing w w' hand hand' b b' g marks before after h =
    cancel-goes-on script p born more Nothing Nothing w w' hand hand' b b' g
    (still-owed p Nothing (cancel_sight w hand b p) (cancel_sight w' hand' b' p) marks
    (ap (λ (c : Caller). c.under_way) g.caller) h) before after h
cancel-if-goes-on script p born more (AStrike q) w w' hand hand' b b' g marks before after h =
    cancel-goes-on script p born more (AStrike q) (AStrike q) w w' hand hand' b b' g
    (still-owed p (AStrike q) (cancel_sight w hand b p) (cancel_sight w' hand' b' p) marks
    (ap (λ (c : Caller). c.under_way) g.caller) h) before after h
cancel-if-goes-on script p born more Wakes w w' hand hand' b b' g marks before after h = tt
