-- Calls that have no withdrawal: none is under way, or it has its reply. And the withdrawals that there are stay where
-- an
-- event takes and sends none.
use Rattle.std.proofs.Common.{◌≡◌, ℕ, Bool, true, false, ◌&&◌, cond, List, [], ◌∷◌, filter, Option, Some, None, ap, sym, subst}
use Rattle.std.specs.List.{AllByRecursion}
use Rattle.std.proofs.lemmas.Bool.{false≢true}
use Rattle.pico_base.specs.declared.call.Call.{Call}
use Rattle.pico_base.specs.declared.numbers.Name.{Name}
use Rattle.pico_base.specs.declared.reply.Entry.{Entry}
use Rattle.pico_base.specs.declared.script.Script.{Script}
use Rattle.rpc_frame.specs.declared.frame.Frame.{Frame}
use Rattle.waiting_model.specs.Calls.{may_park, waits_at}
use Rattle.node_model.specs.declared.held.Held.{Held}
use Rattle.node_model.specs.Kinds.{is_object}
use Rattle.node_model.specs.Directory.{held_for}
use Rattle.world_model.specs.Node.{Node}
use Rattle.world_model.specs.World.{World}
use Rattle.world_laws.specs.Places.{CallPlace, InAnswer, NoCancel, Beside}
use Rattle.world_laws.specs.Sights.{node_of, directory_of}
use Rattle.world_laws.specs.Cancels.{CancelHolds, CancelSight, MayBeInterrupted, OfCall, Owing, cancel_sight, has_reply, is_cancel_of, is_held_cancel_of, is_owed}
use Rattle.world_laws.proofs.Cancels.{IsLater}
use Rattle.world_laws.proofs.Following.{SameOld}
use Rattle.world_laws.proofs.Changes.{Changes, filter-is-list-map, made-same}
use Rattle.world_laws.proofs.Frames.{all-weaker}

-- ---- no withdrawal

module _ (p : ℕ) (owes : Owing) (x : CancelSight) (h : CancelHolds p owes x) where
  by-reply : (call : Call) (name : Name) (object : Bool) → MayBeInterrupted p (is_owed owes p) x call name object true
      → x.cancel ≡ NoCancel
  by-reply call name true h = h
  by-reply call name false h = h

  by-place : (place : CallPlace) (call : Call) → has_reply place ≡ true
      → OfCall p (is_owed owes p) x place (Some call) → x.cancel ≡ NoCancel
  by-place (InAnswer sender reply) call replied o =
      by-reply call (waits_at x.pid call) (may_park call && is_object (waits_at x.pid call)) o
  by-place place call replied o = absurd (false≢true replied)

  -- a call that has its reply has none
  pub replied-uncancelled : (call : Call) → x.caller.under_way ≡ Some call → has_reply x.call ≡ true
      → x.cancel ≡ NoCancel
  replied-uncancelled call is replied =
      by-place x.call call replied
      (subst (λ (o : Option Call). OfCall p (is_owed owes p) x x.call o) is h.of_call)

  -- and where no call is under way there is none
  pub idle-uncancelled : x.caller.under_way ≡ None → x.cancel ≡ NoCancel
  idle-uncancelled none = subst (λ (o : Option Call). OfCall p (is_owed owes p) x x.call o) none h.of_call

-- ---- the withdrawals that there are

dropped : (test : Frame → Bool) (f : Frame) → test f ≡ false → filter test (f ∷ []) ≡ []
dropped test f h = ap (λ b. cond b (f ∷ []) []) h

-- they stay where none is taken, sent, or held elsewhere
pub old-still : (script : Script) (p : ℕ) (w w' : World) (n : Node) (takes sends : List (ℕ × Frame))
    (entries : List Entry) → Changes script p w w' n takes sends entries → (hand hand' : List Held) (b b' : Beside)
    (x : ℕ) → (node_of w x).pid ≡ (node_of w' x).pid → IsLater (node_of w x).caller (node_of w' x).caller
    → ((name : Name)
    → filter (is_held_cancel_of x) (held_for (directory_of w') name)
    ≡ filter (is_held_cancel_of x) (held_for (directory_of w) name))
    → filter (is_held_cancel_of x) hand' ≡ filter (is_held_cancel_of x) hand
    → AllByRecursion (λ s. is_cancel_of x s.1 ≡ false) takes → AllByRecursion (λ s. is_cancel_of x s.1 ≡ false) sends
    → SameOld (cancel_sight w hand b x) (cancel_sight w' hand' b' x)
old-still script p w w' n takes sends entries c hand hand' b b' x pid later held hand_is none_taken none_sent =
    record {
      of = record { pid = pid; later = later };
      cancels = λ to sender. sym (made-same script p w w' n takes sends entries c
          (λ t s fs. filter (is_cancel_of x) fs) (λ t s. filter-is-list-map (is_cancel_of x))
          (all-weaker (λ s none. dropped (is_cancel_of x) s.1 none) takes none_taken)
          (all-weaker (λ s none. dropped (is_cancel_of x) s.1 none) sends none_sent) to sender);
      held_cancels = λ name. sym (held name);
      hand_cancels = sym hand_is;
    }
