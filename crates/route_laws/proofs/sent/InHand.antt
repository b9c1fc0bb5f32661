-- In the middle of an event of a node a call is in hand: what is known of it.
use Rattle.std.proofs.Common.{◌≡◌, ℕ, ◌≤◌, false, [], ◌∷◌, ap, sym, subst, ◌∙◌}
use Rattle.pico_base.specs.declared.script.Script.{Script}
use Rattle.rpc_frame.specs.declared.asked.Asked.{Asked}
use Rattle.node_model.specs.declared.held.Held.TheVariants.{Request}
use Rattle.world_model.specs.World.{World, node_count}
use Rattle.world_laws.specs.Places.{Beside}
use Rattle.world_laws.specs.Sights.{is_born_in}
use Rattle.world_laws.specs.Callers.{CallSight, call_sight, CallHolds, HasCall, IsToBeMade, IsSoFar, is_end_place, is_end_stage}
use Rattle.world_laws.specs.Invariant.{Holds}
use Rattle.route_laws.proofs.hand.HandMoves.{IsCallOf, IsFirst, first}

-- in the middle of an event of node p this call is in hand
pub record HasInHand (script : Script) (w : World) (b : Beside) (p : ℕ) (asked : Asked) : Type 0 where
  pub low_node : 1 ≤ p
  pub high_node : p ≤ node_count script
  pub asks : IsCallOf script asked
  pub holds : Holds script w (Request asked ∷ []) b

module _ (script : Script) (w : World) (b : Beside) (p : ℕ) (asked : Asked) (g : HasInHand script w b p asked) where
  abbrev x : CallSight
  x = call_sight w (Request asked ∷ []) b asked.caller

  abbrev caller : ℕ
  caller = asked.caller

  holds : Holds script w (Request asked ∷ []) b
  holds = g.holds

  asks : IsCallOf script asked
  asks = g.asks

  -- it is the first in hand, and the last
  pub in-hand : IsFirst script caller (is_born_in w) x asked []
  in-hand = first script w asked [] b holds g.asks

  -- it is under way at its caller
  pub is-under-way : HasCall script caller (is_born_in w) x in-hand.call
  is-under-way = in-hand.has

  -- and it is still to be made
  pub not-made : IsToBeMade script caller x in-hand.call
  not-made = subst (λ z. IsSoFar script caller x in-hand.call z) in-hand.place_is is-under-way.so_far

  call-holds : CallHolds script caller (is_born_in w) x
  call-holds = holds.calls caller asks.low asks.high

  -- its caller doesn't leave
  pub caller-stays : is_end_stage x.stage ≡ false
  caller-stays = sym call-holds.ends ∙ ap is_end_place in-hand.place_is
