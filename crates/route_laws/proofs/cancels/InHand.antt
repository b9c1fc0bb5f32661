-- A withdrawal that is first in the leader's hand: whose it is, and that it goes from there.
use Rattle.std.proofs.Common.{Bool, List, Some, ap, cond, false, filter, nat_eq, refl, subst, sym, true, ℕ, ◌&&◌, ◌∙◌, ◌∷◌, ◌≡◌, ◌≤◌}
use Rattle.std.proofs.lemmas.Bool.{eq-eqb, false≢true}
use Rattle.std.specs.List.{AllByRecursion}
use Rattle.pico_base.specs.declared.call.Call.{Call}
use Rattle.pico_base.specs.declared.numbers.Name.{Name}
use Rattle.pico_base.specs.declared.script.Script.{Script}
use Rattle.rpc_frame.specs.declared.asked.Asked.{Asked}
use Rattle.waiting_model.specs.Calls.{is_withdrawal, waits_at, withdrawn_from}
use Rattle.node_model.specs.declared.held.Held.TheVariants.{Request}
use Rattle.node_model.specs.declared.held.Held.{Held}
use Rattle.world_model.specs.World.{World, node_count}
use Rattle.world_laws.specs.Callers.{is_in_hand}
use Rattle.world_laws.specs.Cancels.{AStrike, CancelHolds, CancelIf, CancelSight, IsCancelItem, IsCancelOf, Nothing, Owing, Wakes, cancel_sight, is_held_cancel_of, may_follow}
use Rattle.world_laws.specs.Invariant.{HoldsOwing}
use Rattle.world_laws.specs.Places.{Beside, CallPlace, CancelInHand, CancelPlace, IsHeld, IsInHand, SentByPlace, SentByRange, Waits}
use Rattle.route_laws.proofs.cancels.Current.{IsCurrent}
use Rattle.route_laws.proofs.cancels.Whereabouts.{is_out}

-- ---- nobody is still to be woken

-- somebody has still to be woken
abbrev pub is_waking : Owing → Bool
is_waking Wakes = true
is_waking owes = false

-- then all is said of withdrawals
pub said-of : (p : ℕ) (owes : Owing) (x : CancelSight) → is_waking owes ≡ false → CancelIf p owes x
    → CancelHolds p owes x
said-of p Nothing x calm h = h
said-of p (AStrike node) x calm h = h
said-of p Wakes x calm h = absurd (false≢true (sym calm))

-- and is to be said
pub to-say-of : (p : ℕ) (owes : Owing) (x : CancelSight) → is_waking owes ≡ false → CancelHolds p owes x
    → CancelIf p owes x
to-say-of p Nothing x calm h = h
to-say-of p (AStrike node) x calm h = h
to-say-of p Wakes x calm h = absurd (false≢true (sym calm))

-- ---- the first in hand

-- a call that its withdrawal, in hand, follows, and that isn't in hand, has left
out-of-hand : (place : CallPlace) → may_follow CancelInHand place ≡ true → is_in_hand place ≡ false
    → is_out place ≡ true
out-of-hand IsInHand follows away = absurd (false≢true (sym away))
out-of-hand (IsHeld name) follows away = refl
out-of-hand (SentByPlace h) follows away = refl
out-of-hand (SentByRange h) follows away = refl
out-of-hand (Waits name) follows away = refl
out-of-hand place follows away = absurd (false≢true follows)

-- it is of a call that has left its caller
pub current-is-out : (p : ℕ) (x : CancelSight) (call : Call) (cancel : Asked)
    → IsCurrent p x call cancel CancelInHand → is_out x.call ≡ true
current-is-out p x call cancel cur = out-of-hand x.call cur.pair cur.alone

some-name : (a c : Name) → Some a ≡ Some c → a ≡ c
some-name a c h = cc

-- it is of the name where that waits
pub current-name : (p : ℕ) (x : CancelSight) (call : Call) (cancel : Asked) (from : CancelPlace) (name : Name)
    → IsCurrent p x call cancel from → withdrawn_from cancel.call ≡ Some name
    → waits_at x.pid call ≡ name
current-name p x call cancel from name cur withdraws =
    some-name (waits_at x.pid call) name
    (sym (ap (λ (a : Asked). withdrawn_from a.call) cur.is) ∙ withdraws)

module _ (script : Script) (w : World) (cancel : Asked) (rest : List Held) (owes : Owing) (b : Beside)
    (holds : HoldsOwing script w (Request cancel ∷ rest) owes b) (calm : is_waking owes ≡ false)
    (low : 1 ≤ cancel.caller) (high : cancel.caller ≤ node_count script)
    (is_cancel : is_withdrawal cancel.call ≡ true) where
  abbrev p : ℕ
  p = cancel.caller

  abbrev x : CancelSight
  x = cancel_sight w (Request cancel ∷ rest) b p

  -- what is said of withdrawals of its caller
  pub all-said : CancelHolds p owes x
  all-said = said-of p owes x calm (holds.cancels p low high)

  -- it is one of them
  pub is-of-caller : IsCancelOf x cancel
  is-of-caller =
      let all : AllByRecursion (IsCancelItem x) (Request cancel ∷ filter (is_held_cancel_of p) rest) =
      subst (λ items. AllByRecursion (IsCancelItem x) items)
      (ap (λ t. cond t (Request cancel ∷ filter (is_held_cancel_of p) rest) (filter (is_held_cancel_of p) rest)) passes)
      all-said.hand
      in all.0
    where
      passes : (nat_eq cancel.caller cancel.caller && is_withdrawal cancel.call) ≡ true
      passes = rw (eq-eqb cancel.caller cancel.caller refl, is_cancel) refl
