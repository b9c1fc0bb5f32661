-- What holds of a call's withdrawal stays where neither is taken or sent; and the withdrawal stays behind its call
-- where that goes on.
use Rattle.std.proofs.Common.{◌≡◌, ℕ, ◌+◌, ◌≤◌, Bool, true, false, ◌&&◌, cond, nat_eq, List, [], ◌∷◌, filter, Option, Some, None, if◌then◌else◌, is_some, slice_get, refl, ap, sym, subst, ◌∙◌, arith}
use Rattle.std.specs.List.{AllByRecursion}
use Rattle.pico_base.specs.declared.call.Call.{Call}
use Rattle.pico_base.specs.declared.numbers.Name.{Name}
use Rattle.pico_base.specs.declared.reply.Entry.{Entry}
use Rattle.pico_base.specs.declared.reply.Reply.{Reply}
use Rattle.pico_base.specs.declared.script.Line.{Line}
use Rattle.pico_base.specs.declared.script.Script.{Script}
use Rattle.rpc_frame.specs.declared.asked.Asked.{Asked}
use Rattle.rpc_frame.specs.declared.frame.Frame.{Frame}
use Rattle.rpc_frame.specs.declared.frame.Frame.TheVariants as frames
use Rattle.kernel_model.specs.Fitting.{is_due_again, vars_after}
use Rattle.waiting_model.specs.Calls.{may_park, waits_at}
use Rattle.node_model.specs.declared.held.Held.{Held}
use Rattle.node_model.specs.declared.held.Held.TheVariants.{Request, Ending}
use Rattle.node_model.specs.Kinds.{is_object}
use Rattle.node_model.specs.Directory.{held_for}
use Rattle.world_model.specs.Node.{Node}
use Rattle.world_model.specs.World.{World}
use Rattle.world_laws.specs.Places.{CallPlace, Parked, Beside}
use Rattle.world_laws.specs.Sights.{node_of, frames_to, directory_of}
use Rattle.world_laws.specs.Callers.{is_about}
use Rattle.node_model.specs.Caller.{Caller, answer_at, answer_call, end_call, lines_of}
use Rattle.std.proofs.lemmas.Bool.{false≢true}
use Rattle.world_laws.specs.Cancels.{CancelSight, CancelHolds, IsCancelOf, IsCancelFrame, IsCancelItem, LeadsNowhere, MayBeInterrupted, OfCall, Owing, cancel_sight, has_reply, is_cancel_of, is_held_cancel_of, is_of_call, is_held_of_call, is_owed, is_struck, is_doomed}
use Rattle.world_laws.proofs.Changes.{Changes, filter-is-list-map, made-same}
use Rattle.world_laws.proofs.Frames.{all-weaker}
use Rattle.world_laws.proofs.LeftAlone.{SameCaller, caller-left-alone}
use Rattle.world_laws.proofs.Filtered.{kept-of-same}

first-of-both : (a b : Bool) → (a && b) ≡ true → a ≡ true
first-of-both true b h = refl
first-of-both false b h = h

-- ---- withdrawals, also old ones

-- a caller later on: it has started as many calls, and what is under way as the same one was so before
pub record IsLater (c d : Caller) : Type 0 where
  pub ticket : c.ticket ≤ d.ticket
  pub under_way : c.ticket ≡ d.ticket → (call : Call) → d.under_way ≡ Some call → c.under_way ≡ Some call

module _ (c d : Caller) where
  -- so it is where the call stays,
  pub call-later : c.ticket ≡ d.ticket → c.under_way ≡ d.under_way → IsLater c d
  call-later ticket stays =
      record { ticket = omega (arith, ticket); under_way = λ same call e. stays ∙ e }

  pub same-later : c ≡ d → IsLater c d
  same-later same = call-later (ap (λ (k : Caller). k.ticket) same) (ap (λ (k : Caller). k.under_way) same)

  -- where it is over,
  pub over-later : c.ticket ≤ d.ticket → d.under_way ≡ None → IsLater c d
  over-later ticket free =
      record { ticket = ticket; under_way = λ same call e. absurd (differ call (sym free ∙ e)) }
    where
      differ : (call : Call) → None ≡ Some call → ⊥
      differ call g = cc

  -- and where another one was started
  pub next-later : c.ticket + 1 ≤ d.ticket → IsLater c d
  next-later more =
      record { ticket = omega (arith, more); under_way = λ same call e. absurd (omega (arith, more, same)) }

-- so it is where its reply has come
pub answer-later : (script : Script) (block : ℕ) (c : Caller) (call : Call) (reply : Reply)
    → IsLater c (answer_call script block c call reply)
answer-later script block c call reply = by-line (slice_get (lines_of script block) c.line)
  where
    by-test : (line : Line) (t : Bool)
        → IsLater c (if t then record (end_call c) { tried = c.tried + 1 } else record (end_call c) {
          line = c.line + 1;
          tried = 0;
          vars = vars_after c.vars line.set reply;
        })
    by-test line true = over-later c (record (end_call c) { tried = c.tried + 1 }) (omega arith) refl
    by-test line false =
        over-later c
        (record (end_call c) { line = c.line + 1; tried = 0; vars = vars_after c.vars line.set reply }) (omega arith)
        refl

    by-line : (o : Option Line) → IsLater c (answer_at c call reply o)
    by-line None = over-later c (end_call c) (omega arith) refl
    by-line (Some line) = by-test line (is_due_again call reply c.tried line.tries)

-- later still
pub later-on : (c d e : Caller) → IsLater c d → IsLater d e → IsLater c e
later-on c d e g h =
    let first = g.ticket
    in let second = h.ticket
    in record {
      ticket = omega (arith, first, second);
      under_way = λ same call under. g.under_way (omega (arith, first, second, same)) call
          (h.under_way (omega (arith, first, second, same)) call under);
    }

-- each of the one sight is one of the other
pub record KnowsTickets (x y : CancelSight) : Type 0 where
  pub pid : x.pid ≡ y.pid
  pub later : IsLater x.caller y.caller

-- a withdrawal is one of a caller that has started as many calls
pub cancel-of : (x y : CancelSight) (asked : Asked) → KnowsTickets x y → IsCancelOf x asked → IsCancelOf y asked
cancel-of x y asked k h =
    record {
      process = h.process ∙ k.pid;
      low = h.low;
      high = let high = h.high in let more = k.later.ticket in omega (arith, high, more);
      name = h.name;
      withdraws = h.withdraws;
      object = h.object;
      current = λ same call under.
          let high = h.high
          in let more = k.later.ticket
          in subst (λ pid. is_object (waits_at pid call) ≡ true) k.pid
          (h.current (omega (arith, high, more, same)) call
          (k.later.under_way (omega (arith, high, more, same)) call under));
    }

frame-of : (x y : CancelSight) (frame : Frame) → KnowsTickets x y → IsCancelFrame x frame → IsCancelFrame y frame
frame-of x y (frames.Cancel asked) k h = cancel-of x y asked k h
frame-of x y frame k h = absurd h

item-of : (x y : CancelSight) (item : Held) → KnowsTickets x y → IsCancelItem x item → IsCancelItem y item
item-of x y (Request asked) k h = cancel-of x y asked k h
item-of x y (Ending parcel) k h = absurd h

-- withdrawals in a stream are of a caller that has started as many calls
pub frames-of : (x y : CancelSight) → KnowsTickets x y → (fs : List Frame) → AllByRecursion (IsCancelFrame x) fs
    → AllByRecursion (IsCancelFrame y) fs
frames-of x y k fs all = all-weaker (λ f. frame-of x y f k) fs all

-- and so are those that are held
pub items-of : (x y : CancelSight) → KnowsTickets x y → (items : List Held) → AllByRecursion (IsCancelItem x) items
    → AllByRecursion (IsCancelItem y) items
items-of x y k items all = all-weaker (λ item. item-of x y item k) items all

-- a call on a queue or a set that may have to wait
abbrev pub may_be_withdrawn : ℕ → Call → Bool
may_be_withdrawn pid call = may_park call && is_object (waits_at pid call)

-- ---- what is seen the same

-- the call and its withdrawals are seen the same; only what the leader knows may be more
pub record SameCancel (x y : CancelSight) : Type 0 where
  pub number : x.number ≡ y.number
  pub pid : x.pid ≡ y.pid
  pub caller : x.caller ≡ y.caller
  pub call : x.call ≡ y.call
  pub cancel : x.cancel ≡ y.cancel
  pub cancels : (to sender : ℕ) → x.cancels to sender ≡ y.cancels to sender
  pub held_cancels : (name : Name) → x.held_cancels name ≡ y.held_cancels name
  pub hand_cancels : x.hand_cancels ≡ y.hand_cancels
  pub of_call : (to sender : ℕ) → x.of_call to sender ≡ y.of_call to sender
  pub held_of_call : (name : Name) → x.held_of_call name ≡ y.held_of_call name
  pub hand_of_call : x.hand_of_call ≡ y.hand_of_call
  pub nowhere : (call : Call) → x.caller.under_way ≡ Some call → may_be_withdrawn x.pid call ≡ true
      → LeadsNowhere x (waits_at x.pid call)
      → LeadsNowhere y (waits_at x.pid call)

-- the call and its own withdrawal are seen the same
pub record SameOfCall (x y : CancelSight) : Type 0 where
  pub number : x.number ≡ y.number
  pub pid : x.pid ≡ y.pid
  pub caller : x.caller ≡ y.caller
  pub call : x.call ≡ y.call
  pub cancel : x.cancel ≡ y.cancel
  pub of_call : (to sender : ℕ) → x.of_call to sender ≡ y.of_call to sender
  pub held_of_call : (name : Name) → x.held_of_call name ≡ y.held_of_call name
  pub hand_of_call : x.hand_of_call ≡ y.hand_of_call
  pub nowhere : (call : Call) → x.caller.under_way ≡ Some call → may_be_withdrawn x.pid call ≡ true
      → LeadsNowhere x (waits_at x.pid call)
      → LeadsNowhere y (waits_at x.pid call)

-- what is said of withdrawals in streams, lists and the hand, also of old ones
pub record OldHold (y : CancelSight) : Type 0 where
  pub frames : (to sender : ℕ) → AllByRecursion (IsCancelFrame y) (y.cancels to sender)
  pub held : (name : Name) → AllByRecursion (IsCancelItem y) (y.held_cancels name)
  pub hand : AllByRecursion (IsCancelItem y) y.hand_cancels

-- Its process is struck where it was. Where no strike is owed it isn't doomed anew, and where one is owed it is struck.
pub record StaysOwed (p : ℕ) (owes owes' : Owing) (x y : CancelSight) : Type 0 where
  pub owed : is_owed owes' p ≡ false → is_owed owes p ≡ false
  pub struck : is_struck x.alive ≡ true → is_struck y.alive ≡ true
  pub doomed : is_owed owes' p ≡ false → is_doomed y.alive ≡ true → is_doomed x.alive ≡ true
  pub strikes : is_owed owes' p ≡ true → is_some y.caller.under_way ≡ true → is_struck y.alive ≡ true

-- so it is where its process has the same marks, and nothing else is owed
pub still-owed : (p : ℕ) (owes : Owing) (x y : CancelSight) → x.alive ≡ y.alive
    → x.caller.under_way ≡ y.caller.under_way
    → CancelHolds p owes x → StaysOwed p owes owes x y
still-owed p owes x y marks under_way h =
    record {
      owed = λ e. e;
      struck = λ e. ap is_struck (sym marks) ∙ e;
      doomed = λ none e. ap is_doomed marks ∙ e;
      strikes = λ owed some. ap is_struck (sym marks) ∙ h.owed owed (ap is_some under_way ∙ some);
    }

-- the call and its own withdrawal as in the one sight, and all else as in the other
abbrev marked : CancelSight → CancelSight → CancelSight
marked x y =
    record x {
      alive = y.alive;
      cancels = y.cancels;
      held_cancels = y.held_cancels;
      hand_cancels = y.hand_cancels;
      stays = y.stays;
      knows = y.knows;
    }

same-but-marks : (x y : CancelSight) → SameOfCall x y → marked x y ≡ y
same-but-marks x y s = λ i. record {
  number = s.number i;
  pid = s.pid i;
  caller = s.caller i;
  alive = y.alive;
  call = s.call i;
  cancel = s.cancel i;
  cancels = y.cancels;
  held_cancels = y.held_cancels;
  hand_cancels = y.hand_cancels;
  of_call = λ to sender. s.of_call to sender i;
  held_of_call = λ name. s.held_of_call name i;
  hand_of_call = s.hand_of_call i;
  stays = y.stays;
  knows = y.knows;
}

module _ (p : ℕ) (owes owes' : Owing) (x y : CancelSight) (s : SameOfCall x y) (o : StaysOwed p owes owes' x y) where
  leads-nowhere : (call : Call) → x.caller.under_way ≡ Some call → may_be_withdrawn x.pid call ≡ true
      → LeadsNowhere x (waits_at x.pid call)
      → LeadsNowhere (marked x y) (waits_at x.pid call)
  leads-nowhere call under_way waits l =
      let m : LeadsNowhere y (waits_at x.pid call) = s.nowhere call under_way waits l
      in record { node = m.node; is = s.call ∙ m.is; leaves = m.leaves; unknown = m.unknown }

  not-doomed : (t : Bool) → is_doomed y.alive ≡ t → is_owed owes' p ≡ false → is_doomed x.alive ≡ false
      → is_doomed y.alive ≡ false
  not-doomed true e none h = absurd (false≢true (sym h ∙ o.doomed none e))
  not-doomed false e none h = e

  interrupted-stays : (call : Call) → x.caller.under_way ≡ Some call → (waits replied : Bool)
      → may_be_withdrawn x.pid call ≡ waits
      → MayBeInterrupted p (is_owed owes p) x call (waits_at x.pid call) waits replied
      → MayBeInterrupted p (is_owed owes' p) (marked x y) call (waits_at x.pid call) waits replied
  interrupted-stays call under_way true false waits h =
      record {
        follows = record {
          in_streams = h.follows.in_streams;
          held_for_names = h.follows.held_for_names;
          in_hand = h.follows.in_hand;
        };
        pair = h.pair;
        noted = h.noted;
        struck = λ some. o.struck (h.struck some);
        nowhere = λ noted none. leads-nowhere call under_way waits (h.nowhere noted none);
        interrupted = λ none doomed. h.interrupted (o.owed none) (o.doomed none doomed);
      }
  interrupted-stays call under_way true true waits h = h
  interrupted-stays call under_way false replied waits h = h

  of-call-stays : (place : CallPlace) (under_way : Option Call) → x.caller.under_way ≡ under_way
      → OfCall p (is_owed owes p) x place under_way
      → OfCall p (is_owed owes' p) (marked x y) place under_way
  of-call-stays place None e h = h
  of-call-stays Parked (Some call) e h = (
    h.0,
    record {
      unnoted = h.1.unnoted;
      undoomed = λ none. not-doomed (is_doomed y.alive) refl none (h.1.undoomed (o.owed none));
    },
  )
  of-call-stays place (Some call) e h =
      interrupted-stays call e (may_be_withdrawn x.pid call) (has_reply place) refl h

-- a call that is seen the same has its withdrawal where that was
pub of-call-holds : (p : ℕ) (owes owes' : Owing) (x y : CancelSight) → SameOfCall x y → StaysOwed p owes owes' x y
    → OldHold y → CancelHolds p owes x → CancelHolds p owes' y
of-call-holds p owes owes' x y s o old h =
    record {
      of_call = subst (λ (z : CancelSight). OfCall p (is_owed owes' p) z z.call z.caller.under_way)
          (same-but-marks x y s)
          (of-call-stays p owes owes' x y s o x.call x.caller.under_way refl h.of_call);
      frames = old.frames;
      held = old.held;
      hand = old.hand;
      owed = o.strikes;
    }

-- the same where old withdrawals are where they were, too
pub cancel-stays : (p : ℕ) (owes owes' : Owing) (x y : CancelSight) → SameCancel x y → StaysOwed p owes owes' x y
    → CancelHolds p owes x → CancelHolds p owes' y
cancel-stays p owes owes' x y s o h =
    of-call-holds p owes owes' x y
    (record {
      number = s.number;
      pid = s.pid;
      caller = s.caller;
      call = s.call;
      cancel = s.cancel;
      of_call = s.of_call;
      held_of_call = s.held_of_call;
      hand_of_call = s.hand_of_call;
      nowhere = s.nowhere;
    }) o
    (record {
      frames = λ to sender. subst (λ fs. AllByRecursion (IsCancelFrame y) fs) (s.cancels to sender)
          (frames-of x y knows (x.cancels to sender) (h.frames to sender));
      held = λ name. subst (λ is. AllByRecursion (IsCancelItem y) is) (s.held_cancels name)
          (items-of x y knows (x.held_cancels name) (h.held name));
      hand = subst (λ is. AllByRecursion (IsCancelItem y) is) s.hand_cancels (items-of x y knows x.hand_cancels h.hand);
    }) h
  where
    knows : KnowsTickets x y
    knows = record { pid = s.pid; later = same-later x.caller y.caller s.caller }

-- ---- what a rule shows of the rest

-- a call of node x, or a withdrawal of one
abbrev pub is_item_of : ℕ → Held → Bool
is_item_of x (Request asked) = nat_eq asked.caller x
is_item_of x (Ending parcel) = false

-- what an event leaves of a node's call and of its withdrawal
pub record LeavesCancel (w w' : World) (hand hand' : List Held) (b b' : Beside) (p : ℕ) (n : Node) (x : ℕ) : Type 0
  where
    pub own : x ≡ p → SameCaller (node_of w p) n
    pub call_is : b'.call x ≡ b.call x
    pub cancel_is : b'.cancel x ≡ b.cancel x
    pub held_is : (name : Name)
        → filter (is_item_of x) (held_for (directory_of w') name)
        ≡ filter (is_item_of x) (held_for (directory_of w) name)
    pub hand_is : filter (is_item_of x) hand' ≡ filter (is_item_of x) hand
    pub nowhere : (call : Call) → (node_of w x).caller.under_way ≡ Some call
        → may_be_withdrawn (node_of w x).pid call ≡ true
        → LeadsNowhere (cancel_sight w hand b x) (waits_at (node_of w x).pid call)
        → LeadsNowhere (cancel_sight w' hand' b' x) (waits_at (node_of w x).pid call)

-- a frame that is neither about the call nor a withdrawal of one
is-of-none : (x ticket to sender : ℕ) (frame : Frame) → is_about x to sender frame ≡ false
    → is_cancel_of x frame ≡ false
    → is_of_call x ticket to sender frame ≡ false
is-of-none x ticket to sender (frames.Cancel asked) none cancel = ap (λ b. b && nat_eq asked.ticket ticket) cancel
is-of-none x ticket to sender frame none cancel = none

-- where neither test passes for any
both-none : {A : Type 0} (P Q R : A → Type 0) → ((a : A) → P a → Q a → R a) → (xs : List A) → AllByRecursion P xs
    → AllByRecursion Q xs
    → AllByRecursion R xs
both-none P Q R g [] all more = tt
both-none P Q R g (x ∷ xs) all more = (g x all.0 more.0, both-none P Q R g xs all.1 more.1)

dropped : {A : Type 0} (test : A → Bool) (x : A) → test x ≡ false → filter test (x ∷ []) ≡ []
dropped test x h = ap (λ b. cond b (x ∷ []) []) h

-- both kinds of items are of the node
cancel-is-item : (x : ℕ) (item : Held) → is_held_cancel_of x item ≡ true → is_item_of x item ≡ true
cancel-is-item x (Request asked) h = first-of-both (nat_eq asked.caller x) _ h
cancel-is-item x (Ending parcel) h = absurd (false≢true h)

of-call-is-item : (x ticket : ℕ) (item : Held) → is_held_of_call x ticket item ≡ true → is_item_of x item ≡ true
of-call-is-item x ticket (Request asked) h = first-of-both (nat_eq asked.caller x) _ h
of-call-is-item x ticket (Ending parcel) h = absurd (false≢true h)

-- where no frame is about the call, and none is a withdrawal of one, both are seen the same
pub cancel-left-alone : (script : Script) (p : ℕ) (w w' : World) (n : Node) (takes sends : List (ℕ × Frame))
    (entries : List Entry)
    → Changes script p w w' n takes sends entries → (hand hand' : List Held) (b b' : Beside) (x : ℕ)
    → LeavesCancel w w' hand hand' b b' p n x
    → AllByRecursion (λ s. is_about x p s.0 s.1 ≡ false) takes
    → AllByRecursion (λ s. is_about x s.0 p s.1 ≡ false) sends
    → AllByRecursion (λ s. is_cancel_of x s.1 ≡ false) takes
    → AllByRecursion (λ s. is_cancel_of x s.1 ≡ false) sends
    → SameCancel (cancel_sight w hand b x) (cancel_sight w' hand' b' x)
cancel-left-alone script p w w' n takes sends entries c hand hand' b b' x l not_taken not_sent none_taken none_sent =
    let m : SameCaller (node_of w x) (node_of w' x) =
    caller-left-alone script p w w' n takes sends entries c x l.own
    in let ticket : ℕ = (node_of w x).caller.ticket
    in let same : (node_of w' x).caller.ticket ≡ ticket = ap (λ (z : Caller). z.ticket) m.caller
    in record {
      number = sym m.number;
      pid = sym m.pid;
      caller = sym m.caller;
      call = sym l.call_is;
      cancel = sym l.cancel_is;
      cancels = λ to sender. sym (made-same script p w w' n takes sends entries c
          (λ t s fs. filter (is_cancel_of x) fs)
          (λ t s. filter-is-list-map (is_cancel_of x))
          (all-weaker (λ s. dropped (is_cancel_of x) s.1) takes none_taken)
          (all-weaker (λ s. dropped (is_cancel_of x) s.1) sends none_sent) to sender);
      held_cancels = λ name. sym (kept-of-same (is_held_cancel_of x) (is_item_of x) (cancel-is-item x)
          (held_for (directory_of w') name) (held_for (directory_of w) name) (l.held_is name));
      hand_cancels = sym (kept-of-same (is_held_cancel_of x) (is_item_of x) (cancel-is-item x) hand' hand l.hand_is);
      of_call = λ to sender. sym (ap (λ k. filter (is_of_call x k to sender) (frames_to w' to sender)) same
          ∙ made-same script p w w' n takes sends entries c
          (λ t s fs. filter (is_of_call x ticket t s) fs)
          (λ t s. filter-is-list-map (is_of_call x ticket t s))
          (both-none _ _ _ (λ s about cancel. dropped (is_of_call x ticket p s.0) s.1
          (is-of-none x ticket p s.0 s.1 about cancel)) takes not_taken none_taken)
          (both-none _ _ _ (λ s about cancel. dropped (is_of_call x ticket s.0 p) s.1
          (is-of-none x ticket s.0 p s.1 about cancel)) sends not_sent none_sent) to sender);
      held_of_call = λ name.
          sym (ap (λ k. filter (is_held_of_call x k) (held_for (directory_of w') name)) same
          ∙ kept-of-same (is_held_of_call x ticket) (is_item_of x) (of-call-is-item x ticket)
          (held_for (directory_of w') name) (held_for (directory_of w) name) (l.held_is name));
      hand_of_call = sym (ap (λ k. filter (is_held_of_call x k) hand') same
          ∙ kept-of-same (is_held_of_call x ticket) (is_item_of x) (of-call-is-item x ticket) hand' hand l.hand_is);
      nowhere = l.nowhere;
    }
