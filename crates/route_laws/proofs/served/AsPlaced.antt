-- A call that was sent by the range of its name's number, to a node where it doesn't lead nowhere, has its withdrawal
-- where it would have it, had it been sent by the name's place.
use Rattle.std.proofs.Common.{◌≡◌, ℕ, Bool, true, false, Option, Some, None, refl}
use Rattle.pico_base.specs.declared.call.Call.{Call}
use Rattle.pico_base.specs.declared.call.Call.TheVariants as calls
use Rattle.waiting_model.specs.Calls.{waits_at}
use Rattle.world_laws.specs.Places.{CancelPlace, CancelHeld, CancelInHand, NoCancel, SentByPlace, SentByRange, SentTo, ToLeader}
use Rattle.world_laws.specs.Cancels.{CallMayWait, CancelHolds, CancelSight, FollowsItsCall, LeadsNowhere, MayBeInterrupted, OfCall, Owing, asked_as, is_owed, may_follow}
use Rattle.world_laws.proofs.Cancels.{OldHold, may_be_withdrawn, same-later}
use Rattle.world_laws.proofs.Following.{SameOld, old-holds}

may-follow-placed : (cancel : CancelPlace) (h : ℕ) → may_follow cancel (SentByRange h) ≡ true
    → may_follow cancel (SentByPlace h) ≡ true
may-follow-placed NoCancel h e = refl
may-follow-placed ToLeader h e = refl
may-follow-placed (SentTo to) h e = e
may-follow-placed (CancelHeld name) h e = refl
may-follow-placed CancelInHand h e = refl

module _ (p : ℕ) (owes : Owing) (x : CancelSight) (h : ℕ) where
  -- the call as it was sent, and as it would be
  abbrev pub ranged : CancelSight
  ranged = record x { call = SentByRange h }

  abbrev pub placed : CancelSight
  placed = record x { call = SentByPlace h }

  abbrev owed : Bool
  owed = is_owed owes p

  may-wait : (call : Call) → (LeadsNowhere ranged (waits_at x.pid call) → ⊥)
      → CallMayWait p owed ranged call (waits_at x.pid call) → CallMayWait p owed placed call (waits_at x.pid call)
  may-wait call nowhere m =
      let f : FollowsItsCall p ranged (asked_as ranged call) (asked_as ranged (calls.Withdraw (waits_at x.pid call))) =
      m.follows
      in record {
        follows = record {
          in_streams = λ to sender. f.in_streams to sender;
          held_for_names = λ name. f.held_for_names name;
          in_hand = f.in_hand;
        };
        pair = may-follow-placed x.cancel h m.pair;
        noted = m.noted;
        struck = m.struck;
        nowhere = λ noted none. absurd (nowhere (m.nowhere noted none));
        interrupted = m.interrupted;
      }

  interrupted : (call : Call) (t : Bool) → (t ≡ true → LeadsNowhere ranged (waits_at x.pid call) → ⊥)
      → MayBeInterrupted p owed ranged call (waits_at x.pid call) t false
      → MayBeInterrupted p owed placed call (waits_at x.pid call) t false
  interrupted call true nowhere m = may-wait call (nowhere refl) m
  interrupted call false nowhere m = m

  of-call : (under_way : Option Call)
      → ((call : Call) → under_way ≡ Some call → may_be_withdrawn x.pid call ≡ true
      → LeadsNowhere ranged (waits_at x.pid call) → ⊥)
      → OfCall p owed ranged (SentByRange h) under_way → OfCall p owed placed (SentByPlace h) under_way
  of-call None nowhere m = m
  of-call (Some call) nowhere m = interrupted call (may_be_withdrawn x.pid call) (nowhere call refl) m

  pub as-placed : ((call : Call) → x.caller.under_way ≡ Some call → may_be_withdrawn x.pid call ≡ true
      → LeadsNowhere ranged (waits_at x.pid call) → ⊥) → CancelHolds p owes ranged → CancelHolds p owes placed
  as-placed nowhere m =
      let same : SameOld ranged placed = record {
        of = record { pid = refl; later = same-later x.caller x.caller refl };
        cancels = λ to sender. refl;
        held_cancels = λ name. refl;
        hand_cancels = refl;
      }
      in let old : OldHold placed = old-holds p owes ranged placed same m
      in record {
        of_call = of-call x.caller.under_way nowhere m.of_call;
        frames = old.frames;
        held = old.held;
        hand = old.hand;
        owed = m.owed;
      }
