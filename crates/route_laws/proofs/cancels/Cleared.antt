-- A withdrawal whose call waits is taken from where it was first, and is to end that call: what holds in the middle of
-- the event.
use Rattle.std.proofs.Common.{◌≡◌, ◌≢◌, ℕ, ◌≤◌, Bool, true, false, List, [], ◌∷◌, filter, Some, refl, ap, sym, subst, ◌∙◌, cond, if◌then◌else◌, append-nil}
use Rattle.std.proofs.lemmas.Bool.{false≢true, ne_eqb}
use Rattle.pico_base.specs.declared.numbers.Name.{Name}
use Rattle.pico_base.specs.declared.script.Script.{Script}
use Rattle.rpc_frame.specs.declared.asked.Asked.{Asked}
use Rattle.rpc_frame.specs.declared.frame.Frame.{Frame}
use Rattle.rpc_frame.specs.declared.frame.Frame.TheVariants as frames
use Rattle.waiting_model.specs.Calls.{is_withdrawal, waits_at}
use Rattle.waiting_model.specs.History.{Replays}
use Rattle.waiting_model.specs.Kernel.{living_at, opening}
use Rattle.waiting_model.specs.Linear.{in_line}
use Rattle.node_model.specs.declared.held.Held.{Held}
use Rattle.node_model.specs.declared.held.Held.TheVariants.{Request}
use Rattle.node_model.specs.Directory.{Directory, held_for, is_known, stays}
use Rattle.world_model.specs.Node.{Node}
use Rattle.world_model.specs.World.{World, node_count}
use Rattle.world_laws.specs.Places.{Beside, CancelInHand, CancelPlace, NoCancel, SentTo}
use Rattle.world_laws.specs.Sights.{directory_of, node_of}
use Rattle.world_laws.specs.Cancels.{CallMayWait, CancelHolds, CancelSight, MayBeInterrupted, Nothing, OfCall, Owing, cancel_sight, is_owed, is_struck, owing_of}
use Rattle.world_laws.specs.Invariant.{HoldsOwing}
use Rattle.world_laws.specs.Wholes.{HasMarks, HasWhole, under_way_at}
use Rattle.world_laws.proofs.Cancels.{SameCancel, cancel-left-alone, is_item_of}
use Rattle.world_laws.proofs.Changes.{Changes, read-same}
use Rattle.world_laws.proofs.Following.{WaitsAt, waits-at}
use Rattle.world_laws.proofs.Steps.{Heads}
use Rattle.route_laws.proofs.Entered.{cancel-holds-of, whole-of}
use Rattle.route_laws.proofs.cancels.BrokenWhole.{IsCleared, cleared}
use Rattle.route_laws.proofs.cancels.Current.{IsCurrent, IsInFront, from_leader, in_hand, is-current}
use Rattle.world_laws.proofs.Heads.{head-is}
use Rattle.route_laws.proofs.cancels.Dropped.{taken-cleared, taken-others}
use Rattle.route_laws.proofs.cancels.Going.{front-somewhere, is_somewhere}
use Rattle.route_laws.proofs.cancels.InHand.{is_waking}
use Rattle.route_laws.proofs.cancels.ToNobody.{hand-cleared, hand-others}
use Rattle.route_laws.proofs.cancels.Waiter.{TakesOut}

-- The kernel in which callers wait stays beside the world.
pub whole-cleared : (w w' : World) (b : Beside) (x : ℕ) → w'.journal ≡ w.journal
    → ((y : ℕ) → under_way_at w' y ≡ under_way_at w y) → HasWhole w b → HasWhole w' (cleared b x)
whole-cleared w w' b x journal under_way h =
    record {
      legal = subst (λ j. Replays opening j b.whole) (sym journal) h.legal;
      lines = h.lines ∙ ap in_line (sym journal);
      alike = h.alike;
      sound = h.sound;
      bodies = h.bodies;
      marks = λ y a lives. subst (λ o. HasMarks (b.call y) o a) (sym (under_way y)) (h.marks y a lives);
    }

no-cancel-is : (place : CancelPlace) → is_somewhere place ≡ true → place ≡ NoCancel → ⊥
no-cancel-is place some none = false≢true (sym (ap is_somewhere none) ∙ some)

-- ---- whose call waits

module _ (script : Script) (w : World) (hand : List Held) (b : Beside) (it : Asked) (name : Name) (owes : Owing)
    (said : CancelHolds it.caller owes (cancel_sight w hand b it.caller)) (is_cancel : is_withdrawal it.call ≡ true)
    (t : TakesOut script w b name it) where
  abbrev x : ℕ
  x = it.caller

  abbrev sight : CancelSight
  sight = cancel_sight w hand b x

  abbrev owed : Bool
  owed = is_owed owes x

  may-wait : CallMayWait x owed sight t.call (waits_at sight.pid t.call)
  may-wait =
      subst (λ u. MayBeInterrupted x owed sight t.call (waits_at sight.pid t.call) u false) t.may
      (subst (λ z. OfCall x owed sight z (Some t.call)) t.waits
      (subst (λ o. OfCall x owed sight (b.call x) o) t.under_way said.of_call))

  at : WaitsAt sight.pid t.call
  at = waits-at sight.pid t.call t.may

  -- The withdrawal is its own, and its process is struck.
  pub its-current : (from : CancelPlace) → IsInFront it.caller it w hand from
      → IsCurrent it.caller (cancel_sight w hand b it.caller) t.call it from
  its-current from front =
      is-current x w hand b it refl is_cancel t.call owed at.parks may-wait t.own_ticket from front

  pub its-struck : (from : CancelPlace) → IsInFront it.caller it w hand from
      → is_struck (living_at b.whole (b.pids it.caller)) ≡ true
  its-struck from front =
      may-wait.struck
      (λ none. no-cancel-is from (front-somewhere x it w hand from front) (sym (its-current from front).place ∙ none))

-- ---- in the leader's hand

module _ (script : Script) (w : World) (it : Asked) (rest : List Held) (strikes : Bool) (b : Beside)
    (holds : HoldsOwing script w (Request it ∷ rest) (owing_of 1 strikes) b)
    (calm : is_waking (owing_of 1 strikes) ≡ false) (low : 1 ≤ it.caller) (high : it.caller ≤ node_count script)
    (is_cancel : is_withdrawal it.call ≡ true) (c : Changes script 1 w w (node_of w 1) [] [] []) (name : Name)
    (t : TakesOut script w b name it) where
  abbrev said-in-hand : (y : ℕ) → 1 ≤ y → y ≤ node_count script
      → CancelHolds y (owing_of 1 strikes) (cancel_sight w (Request it ∷ rest) b y)
  said-in-hand y low_y high_y =
      cancel-holds-of 1 strikes y (cancel_sight w (Request it ∷ rest) b y) (holds.cancels y low_y high_y)

  same-in-hand : (y : ℕ) → y ≢ it.caller
      → SameCancel (cancel_sight w (Request it ∷ rest) b y) (cancel_sight w rest (cleared b it.caller) y)
  same-in-hand y d =
      cancel-left-alone script 1 w w (node_of w 1) [] [] [] c (Request it ∷ rest) rest b (cleared b it.caller) y
      (record {
        own = λ e. record { number = refl; pid = refl; stage = refl; caller = refl; leases = refl };
        call_is = refl;
        cancel_is = ap (λ u. if u then NoCancel else b.cancel y) (ne_eqb it.caller y (λ e. d (sym e)));
        held_is = λ m. refl;
        hand_is = sym (ap (λ u. cond u (Request it ∷ filter (is_item_of y) rest) (filter (is_item_of y) rest))
            (ne_eqb it.caller y (λ e. d (sym e))));
        nowhere = λ one known may l. record { node = l.node; is = l.is; leaves = l.leaves; unknown = l.unknown };
      }) tt tt tt tt

  -- It is first in the hand.
  pub cleared-in-hand : IsCleared script w (Request it ∷ rest) strikes w 1 rest strikes b it.caller
  cleared-in-hand =
      record {
        holds = hand-cleared script w w it rest (owing_of 1 strikes) b holds calm low high is_cancel c;
        whole = whole-cleared w w b it.caller refl (λ y. refl) (whole-of 1 strikes w b holds.whole);
        said = said-in-hand;
        same = same-in-hand;
        old = hand-others script w w it rest (owing_of 1 strikes) b holds calm low high is_cancel c;
        owed_else = λ y d. refl;
        struck = its-struck script w (Request it ∷ rest) b it name (owing_of 1 strikes)
            (said-in-hand it.caller low high) is_cancel t CancelInHand (in_hand rest refl);
      }

-- ---- on its way from the leader

module _ (script : Script) (w w' : World) (b : Beside) (holds : HoldsOwing script w [] Nothing b) (p : ℕ) (it : Asked)
    (rest : List Frame) (h : Heads script w p 1 (frames.Cancel it) rest) (low : 1 ≤ it.caller)
    (high : it.caller ≤ node_count script) (is_cancel : is_withdrawal it.call ≡ true)
    (c : Changes script p w w' (node_of w p) ((1, frames.Cancel it) ∷ []) [] []) (other : p ≢ 1) (name : Name)
    (t : TakesOut script w b name it) where
  abbrev takes : List (ℕ × Frame)
  takes = (1, frames.Cancel it) ∷ []

  read : {T : Type 0} (f : Node → T) (y : ℕ) → f (node_of w' y) ≡ f (node_of w y)
  read f y = read-same script p w w' (node_of w p) takes [] [] c f refl y

  directory-is : directory_of w' ≡ directory_of w
  directory-is = read (λ (m : Node). m.leader.directory) 1

  same-taken : (y : ℕ) → y ≢ it.caller
      → SameCancel (cancel_sight w [] b y) (cancel_sight w' [] (cleared b it.caller) y)
  same-taken y d =
      cancel-left-alone script p w w' (node_of w p) takes [] [] c [] [] b (cleared b it.caller) y
      (record {
        own = λ e. record { number = refl; pid = refl; stage = refl; caller = refl; leases = refl };
        call_is = refl;
        cancel_is = ap (λ u. if u then NoCancel else b.cancel y) (ne_eqb it.caller y (λ e. d (sym e)));
        held_is = λ m. ap (λ (z : Directory). filter (is_item_of y) (held_for z m)) directory-is;
        hand_is = refl;
        nowhere = λ one known may l. record {
          node = l.node;
          is = l.is;
          leaves = ap (λ z. stays z l.node) directory-is ∙ l.leaves;
          unknown = ap (λ z. is_known z (waits_at (node_of w y).pid one)) directory-is ∙ l.unknown;
        };
      }) (refl, tt) tt (ne_eqb it.caller y (λ e. d (sym e)), tt) tt

  -- It is first in the stream.
  pub cleared-taken : IsCleared script w [] false w' p [] false b it.caller
  cleared-taken =
      record {
        holds = taken-cleared script w w' b holds p it rest h low high is_cancel c;
        whole = whole-cleared w w' b it.caller (c.journal ∙ append-nil w.journal)
            (read (λ (m : Node). m.caller.under_way)) holds.whole;
        said = λ y low_y high_y. holds.cancels y low_y high_y;
        same = same-taken;
        old = taken-others script w w' b holds p it rest h low high is_cancel c;
        owed_else = λ y d. refl;
        struck = its-struck script w [] b it name Nothing (holds.cancels it.caller low high) is_cancel t (SentTo p)
            (from_leader p rest other (head-is script w p 1 (frames.Cancel it) rest h));
      }
