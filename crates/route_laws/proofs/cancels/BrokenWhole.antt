-- A wait is broken off by a withdrawal: once the call has its reply all holds, also the kernel in which callers wait,
-- and all other withdrawals.
use Rattle.std.proofs.Common.{◌≡◌, ◌≢◌, ◌⊎◌, ℕ, ◌≤◌, Bool, true, false, nat_eq, List, [], ◌∷◌, ◌++◌, Option, Some, None, is_none, is_some, if◌then◌else◌, filter, refl, ap, sym, subst, ◌∙◌, inl, inr}
use Rattle.std.specs.List.{AllByRecursion}
use Rattle.std.proofs.lemmas.Bool.{cases_eq, eq-eqb, eqb-true, false≢true}
use Rattle.pico_base.specs.declared.call.Call.{Call}
use Rattle.pico_base.specs.declared.call.Call.TheVariants as calls
use Rattle.pico_base.specs.declared.numbers.Name.{Name}
use Rattle.pico_base.specs.declared.numbers.Name.TheVariants.{Msg, Proc, Sem}
use Rattle.pico_base.specs.declared.reply.Entry.{Entry}
use Rattle.pico_base.specs.declared.reply.Errno.TheVariants.{Eintr}
use Rattle.pico_base.specs.declared.reply.Reply.{Reply}
use Rattle.pico_base.specs.declared.reply.Reply.TheVariants as replies
use Rattle.pico_base.specs.declared.script.Script.{Script}
use Rattle.pico_base.specs.Home.{home_of}
use Rattle.rpc_frame.specs.declared.frame.Frame.{Frame}
use Rattle.number_maps.specs.Maps.{get}
use Rattle.kernel_laws.proofs.Plain.{not_none, not_some}
use Rattle.kernel_model.specs.Effect.{reply_alone}
use Rattle.kernel_model.specs.History.{number_in}
use Rattle.kernel_model.specs.Kernel as plain
use Rattle.kernel_model.specs.Row.{Alive}
use Rattle.kernel_model.specs.Transition.{may_make}
use Rattle.waiting_model.specs.Calls.{is_same_name, waits_at, withdrawn_from}
use Rattle.waiting_model.specs.Kernel.{living_at}
use Rattle.waiting_model.specs.Kernel as whole_kernels
use Rattle.waiting_model.specs.Linear.{line_of}
use Rattle.waiting_model.specs.Marks as marks
use Rattle.waiting_model.specs.Transition.{transition, withdrawn}
use Rattle.waiting_laws.specs.Lines.{MayMakeLines, lines_of, marked_line}
use Rattle.waiting_laws.specs.Parked.{mark_of}
use Rattle.waiting_laws.proofs.Leads.{withdraws}
use Rattle.node_model.specs.declared.held.Held.{Held}
use Rattle.node_model.specs.Bodies.{body_in, erase, whole_in}
use Rattle.node_model.specs.Caller.{Caller}
use Rattle.node_model.specs.Directory.{Directory, held_for, is_known}
use Rattle.node_model.specs.Entries.{entry_with}
use Rattle.world_model.specs.Node.{Node}
use Rattle.world_model.specs.Step.{Step}
use Rattle.world_model.specs.World.{World, node_count, world_after}
use Rattle.world_laws.specs.Places.{Beside, CallPlace, Idle, InAnswer, NoCancel, Parked, Waits, cancel_in}
use Rattle.world_laws.specs.Sights.{directory_of, is_born_in, node_of}
use Rattle.world_laws.specs.Callers.{HasCallOrNone, call_sight, is_about, may_be_in}
use Rattle.world_laws.specs.Cancels.{CancelHolds, CancelSight, IsCancelFrame, IsCancelItem, MayBeInterrupted, OfCall, Owing, Wakes, cancel_sight, has_reply, is_cancel_of, is_doomed, is_held_cancel_of, is_owed, is_struck, owing_of}
use Rattle.world_laws.specs.Invariant.{HoldsOwing}
use Rattle.world_laws.specs.Wholes.{HasMarks, HasWhole, under_way_at}
use Rattle.world_laws.proofs.Cancels.{IsLater, OldHold, SameCancel, cancel-left-alone, cancel-stays, frames-of, is_item_of, items-of, may_be_withdrawn, same-later}
use Rattle.world_laws.proofs.Changes.{Changes, read-same}
use Rattle.world_laws.proofs.Following.{SameOld}
use Rattle.world_laws.proofs.LeftAlone.{SameCaller}
use Rattle.world_laws.proofs.Replied.{IsOver}
use Rattle.world_laws.proofs.Wholes.{LivesAlike, lives-alike}
use Rattle.rule_laws.proofs.Withdrawals.{old-still}
use Rattle.rule_laws.proofs.own.Moved.{AreStill, IsStillOrWoken, is_still}
use Rattle.route_laws.proofs.Entered.{EntersWith, cancel-if-of, caught-up-with, entered-whole, seen-on, still-struck, was-doomed, whole-if}
use Rattle.route_laws.proofs.served.Replies.{place_by}

-- beside the world no withdrawal of this node's call is there any more
abbrev pub cleared : Beside → ℕ → Beside
cleared b x = record b { cancel = cancel_in b.cancel x NoCancel }

-- a withdrawal names where its call waits
pub withdrawal-is : (call : Call) (name : Name) → withdrawn_from call ≡ Some name → call ≡ calls.Withdraw name
withdrawal-is (calls.Withdraw other) name h = ap calls.Withdraw (some-name h)
  where
    some-name : {a c : Name} → Some a ≡ Some c → a ≡ c
    some-name e = cc
withdrawal-is call name h = not_some name h

-- where a call's reply is on its way its process isn't parked
answered-marks : (p : ℕ) (reply : Reply) (o : Option Call) (a : marks.Alive) → a.marks.parked ≡ None
    → HasMarks (InAnswer p reply) o a
answered-marks p reply None a h = h
answered-marks p reply (Some call) a h = h

owed-only : (p : ℕ) (t : Bool) (y : ℕ) → is_owed (owing_of p t) y ≡ true → y ≡ p
owed-only p true y h = sym (eqb-true p y h)
owed-only p false y h = absurd (false≢true h)

-- nothing is to be said of its withdrawal but that there is none
over-is : (p : ℕ) (owed : Bool) (y : CancelSight) (place : CallPlace) (under_way : Option Call) → y.cancel ≡ NoCancel
    → (under_way ≡ None) ⊎ (has_reply place ≡ true) → OfCall p owed y place under_way
over-is p owed y place None none over = none
over-is p owed y (InAnswer from reply) (Some call) none over = answered (may_be_withdrawn y.pid call)
  where
    answered : (t : Bool) → MayBeInterrupted p owed y call (waits_at y.pid call) t true
    answered true = none
    answered false = none
over-is p owed y place (Some call) none over = absurd (not-over call over)
  where
    not-over : (call : Call) → (Some call ≡ None) ⊎ (false ≡ true) → ⊥
    not-over call (inl e) = not_none call e
    not-over call (inr e) = false≢true e

-- a call that is over has no withdrawal but old ones
pub over-holds : (p : ℕ) (owes : Owing) (y : CancelSight) → OldHold y → y.cancel ≡ NoCancel → IsOver y
    → (is_owed owes p ≡ true → is_some y.caller.under_way ≡ true → is_struck y.alive ≡ true) → CancelHolds p owes y
over-holds p owes y kept none over strikes =
    record {
      of_call = over-is p (is_owed owes p) y y.call y.caller.under_way none over;
      frames = kept.frames;
      held = kept.held;
      hand = kept.hand;
      owed = strikes;
    }

same-alive : (a c : Alive) → Some a ≡ Some c → a ≡ c
same-alive a c h = cc

-- ---- the wait ends

-- What there is to show of the world before: the withdrawal is gone from where it was, and in the middle of the event
-- all holds but for what is said of withdrawals; these held before, with what was owed; and the process was struck.
pub record IsCleared (script : Script) (w0 : World) (hand0 : List Held) (before : Bool) (w : World) (p : ℕ)
    (rest : List Held) (after : Bool) (b : Beside) (x : ℕ) : Type 0 where
  pub holds : HoldsOwing script w rest Wakes (cleared b x)
  pub whole : HasWhole w (cleared b x)
  pub said : (y : ℕ) → 1 ≤ y → y ≤ node_count script → CancelHolds y (owing_of p before) (cancel_sight w0 hand0 b y)
  pub same : (y : ℕ) → y ≢ x → SameCancel (cancel_sight w0 hand0 b y) (cancel_sight w rest (cleared b x) y)
  pub old : OldHold (cancel_sight w rest (cleared b x) x)
  pub owed_else : (y : ℕ) → y ≢ x → is_owed (owing_of p after) y ≡ is_owed (owing_of p before) y
  pub struck : is_struck (living_at b.whole (b.pids x)) ≡ true

-- And of the world afterwards: node x's call, which was parked, is over, by one line, which leaves the kernel as it
-- was; and what the step changes.
pub record IsBroken (script : Script) (w w2 : World) (rest : List Held) (b : Beside) (p x : ℕ) (withdrawal : Call)
    (name : Name) : Type 0 where
  pub beside : Beside
  pub holds : HoldsOwing script w2 rest Wakes beside
  pub call : Call
  pub lines : beside.lines ≡ b.lines ++ line_of p (b.pids x) call (replies.Fail Eintr) ∷ []
  pub kernel : beside.kernel ≡ b.kernel
  pub pids : beside.pids ≡ b.pids
  pub cancel : beside.cancel ≡ b.cancel
  pub place : beside.call x ≡ place_by (nat_eq x p) p (replies.Fail Eintr)
  pub others : (y : ℕ) → y ≢ x → beside.call y ≡ b.call y
  pub bodies : ((m : Name) → erase (b.body m) ≡ whole_in b.whole m) → (m : Name)
      → erase (beside.body m) ≡ whole_in (withdrawn b.whole (b.pids x) name) m
  -- before
  pub under_way : under_way_at w x ≡ Some call
  pub parked : (b.call x ≡ Parked) ⊎ (b.call x ≡ Waits name)
  pub at : waits_at (b.pids x) call ≡ name
  pub alive : Alive
  pub lives : plain.living_at b.kernel (b.pids x) ≡ Some alive
  pub may : may_make alive call ≡ true
  pub forked : (b.pids x ≡ 0) → ⊥
  pub over : IsStillOrWoken (b.call x) (beside.call x)
  -- the step
  pub node : Node
  pub sends : List (ℕ × Frame)
  pub changes : Changes script p w w2 node [] sends
      (entry_with p (b.pids x) withdrawal (reply_alone (replies.Fail Eintr)) ∷ [])
  pub same_caller : p ≢ x → SameCaller (node_of w p) node
  pub pid_is : node.pid ≡ (node_of w p).pid
  pub later : IsLater (node_of w p).caller node.caller
  pub directory_is : node.leader.directory ≡ (node_of w p).leader.directory
  pub not_about : (y : ℕ) → y ≢ x → AllByRecursion (λ f. is_about y f.0 p f.1 ≡ false) sends
  pub no_cancel : (y : ℕ) → AllByRecursion (λ f. is_cancel_of y f.1 ≡ false) sends

-- All holds after the step but for the strike that may be owed, and each call is where it was, or has its reply.
pub record WaitEnds (script : Script) (v : World) (p : ℕ) (t : Step) (rest : List Held) (after : Bool) (b : Beside)
    : Type 0 where
  pub beside : Beside
  pub holds : HoldsOwing script (world_after v p t) rest (owing_of p after) beside
  pub calls : AreStill b.call beside.call

-- old withdrawals are where they were
old-there : (x y : CancelSight) → SameOld x y → OldHold x → OldHold y
old-there x y same h =
    record {
      frames = λ to sender. subst (λ fs. AllByRecursion (IsCancelFrame y) fs) (same.cancels to sender)
          (frames-of x y same.of (x.cancels to sender) (h.frames to sender));
      held = λ name. subst (λ items. AllByRecursion (IsCancelItem y) items) (same.held_cancels name)
          (items-of x y same.of (x.held_cancels name) (h.held name));
      hand = subst (λ items. AllByRecursion (IsCancelItem y) items) same.hand_cancels
          (items-of x y same.of x.hand_cancels h.hand);
    }

module _ (script : Script) (w0 : World) (hand0 : List Held) (before : Bool) (v : World) (p : ℕ) (s next_step : Step)
    (rest : List Held) (after : Bool) (b : Beside) (x : ℕ) (withdrawal : Call) (name : Name)
    (k : IsCleared script w0 hand0 before (world_after v p s) p rest after b x)
    (broken : IsBroken script (world_after v p s) (world_after v p next_step) rest (cleared b x) p x withdrawal name)
    (low : 1 ≤ x) (high : x ≤ node_count script) (is_of : withdrawn_from withdrawal ≡ Some name) where
  abbrev w : World
  w = world_after v p s

  abbrev b1 : Beside
  b1 = cleared b x

  abbrev reply : Reply
  reply = replies.Fail Eintr

  abbrev w2 : World
  w2 = world_after v p next_step

  abbrev entries : List Entry
  entries = entry_with p (b.pids x) withdrawal (reply_alone reply) ∷ []

  changes : Changes script p w w2 broken.node [] broken.sends entries
  changes = broken.changes

  -- ---- nodes

  read : {A : Type 0} (f : Node → A) → f broken.node ≡ f (node_of w p) → (y : ℕ) → f (node_of w2 y) ≡ f (node_of w y)
  read f e y = read-same script p w w2 broken.node [] broken.sends entries changes f e y

  directory-same : directory_of w2 ≡ directory_of w
  directory-same = read (λ (m : Node). m.leader.directory) broken.directory_is 1

  under-way-same : (y : ℕ) → y ≢ x → under_way_at w2 y ≡ under_way_at w y
  under-way-same y d =
      elim (cases_eq y p) [
        | inl e ↦
            let same : SameCaller (node_of w p) broken.node = broken.same_caller (λ g. d (e ∙ g))
            in ap (under_way_at w2) e ∙ ap (λ (m : Node). m.caller.under_way) changes.here
            ∙ ap (λ (c : Caller). c.under_way) same.caller ∙ sym (ap (under_way_at w) e)
        | inr other ↦ ap (λ (m : Node). m.caller.under_way) (changes.others y other)
      ]

  -- a node's own call is over
  none-now : nat_eq x p ≡ true → under_way_at w2 x ≡ None
  none-now own = by (under_way_at w2 x) refl (let c = broken.holds in (c.calls x low high).call)
    where
      by : (o : Option Call) → under_way_at w2 x ≡ o
          → HasCallOrNone script x (is_born_in w2) (call_sight w2 rest broken.beside x) o
          → under_way_at w2 x ≡ None
      by None is h = is
      by (Some call) is h =
          absurd (false≢true
          (sym (ap (λ place. may_be_in place (home_of (node_of w2 x).pid call) call)
          (broken.place ∙ ap (λ u. place_by u p reply) own)) ∙ h.home))

  -- ---- the kernel in which callers wait

  abbrev next : whole_kernels.Kernel
  next = withdrawn b.whole (b.pids x) name

  abbrev ended : Beside
  ended = record broken.beside { whole = next }

  whole : HasWhole w b1
  whole = k.whole

  alike : LivesAlike b.whole (b.pids x) broken.alive
  alike = lives-alike b.whole b.kernel (b.pids x) broken.alive whole.alike broken.lives

  parked : alike.alive.marks.parked ≡ Some broken.call
  parked = by broken.parked
    where
      marked : HasMarks (b.call x) (Some broken.call) alike.alive
      marked = subst (λ o. HasMarks (b.call x) o alike.alive) broken.under_way (whole.marks x alike.alive alike.lives)

      by : (b.call x ≡ Parked) ⊎ (b.call x ≡ Waits name) → alike.alive.marks.parked ≡ Some broken.call
      by (inl e) = subst (λ place. HasMarks place (Some broken.call) alike.alive) e marked
      by (inr e) = subst (λ place. HasMarks place (Some broken.call) alike.alive) e marked

  parked-there : marks.is_parked_at (b.pids x) name alike.alive.marks.parked ≡ true
  parked-there =
      ap (marks.is_parked_at (b.pids x) name) parked
      ∙ subst (λ m. marks.is_parked_at (b.pids x) m (Some broken.call) ≡ true) broken.at
      (same-wait (waits_at (b.pids x) broken.call))
    where
      -- each name is the same as itself, also as the kernel in which callers wait says it
      same-wait : (m : Name) → is_same_name m m ≡ true
      same-wait (Proc pid) = eq-eqb pid pid refl
      same-wait (Msg id) = eq-eqb id id refl
      same-wait (Sem id) = eq-eqb id id refl

  lines-are : lines_of b.whole (entry_with p (b.pids x) withdrawal (reply_alone reply))
      ≡ line_of p (b.pids x) broken.call reply ∷ []
  lines-are =
      ap (λ call. lines_of b.whole (entry_with p (b.pids x) call (reply_alone reply)))
      (withdrawal-is withdrawal name is_of)
      ∙ ap (λ mark. marked_line p (b.pids x) mark reply) (ap mark_of alike.lives ∙ parked)

  line-may : MayMakeLines b.kernel (line_of p (b.pids x) broken.call reply ∷ [])
  line-may = (
    λ a lives. subst (λ (z : Alive). may_make z broken.call ≡ true)
        (same-alive broken.alive a (sym broken.lives ∙ lives)) broken.may,
    tt,
  )

  enters : EntersWith w w2 b1 ended p x withdrawal (reply_alone reply)
  enters =
      record {
        step = ap (λ call. transition b.whole (b.pids x) call (number_in (Some reply)))
            (withdrawal-is withdrawal name is_of)
            ∙ withdraws b.whole (b.pids x) alike.alive name (number_in (Some reply)) alike.lives
            (sym (ap is_struck alike.lives) ∙ k.struck) parked-there;
        may = subst (λ ls. MayMakeLines b.kernel ls) (sym lines-are) line-may;
        journal = changes.journal;
        lines = broken.lines ∙ ap (λ ls. b.lines ++ ls) (sym lines-are);
        led = k.holds.history.legal;
        leads = broken.holds.history.legal;
        bodies = λ same m. broken.bodies whole.bodies m;
        pids = λ y. ap (λ f. f y) broken.pids;
        apart = apart;
        own_marks = λ same a lives unparked. subst (λ place. HasMarks place (under_way_at w2 x) a) (sym broken.place)
            (own-marks (nat_eq x p) refl a unparked);
        woken = λ y d woken. absurd (false≢true woken);
        others = λ y d asleep a h. subst (λ place. HasMarks place (under_way_at w2 y) a) (sym (broken.others y d))
            (subst (λ o. HasMarks (b.call y) o a) (sym (under-way-same y d)) h);
        dead = λ y d none. ap (λ z. plain.living_at z (b.pids y)) broken.kernel ∙ none;
      }
    where
      apart : (y : ℕ) → y ≢ x → b.pids y ≢ b.pids x
      apart y d e = let pids = k.holds.pids in d (sym (pids.apart x y broken.forked (sym e)))

      own-marks : (own : Bool) → nat_eq x p ≡ own → (a : marks.Alive) → a.marks.parked ≡ None
          → HasMarks (place_by own p (replies.Fail Eintr)) (under_way_at w2 x) a
      own-marks true is a unparked = subst (λ o. HasMarks Idle o a) (sym (none-now is)) unparked
      own-marks false is a unparked = answered-marks p (replies.Fail Eintr) (under_way_at w2 x) a unparked

  -- ---- withdrawals

  abbrev seen : ℕ → CancelSight
  seen y = cancel_sight w0 hand0 b y

  abbrev now : ℕ → CancelSight
  now y = cancel_sight w2 rest ended y

  same-then : (y : ℕ) → y ≢ x → SameCancel (seen y) (now y)
  same-then y d =
      seen-on (seen y) (cancel_sight w rest b1 y) (now y) (k.same y d)
      (cancel-left-alone script p w w2 broken.node [] broken.sends entries changes rest rest b1 ended y
      (record {
        own = λ e. broken.same_caller (λ g. d (e ∙ g));
        call_is = broken.others y d;
        cancel_is = ap (λ f. f y) broken.cancel;
        held_is = λ m. ap (λ (z : Directory). filter (is_item_of y) (held_for z m)) directory-same;
        hand_is = refl;
        nowhere = λ one known may l. record {
          node = l.node;
          is = broken.others y d ∙ l.is;
          leaves = ap (λ (z : Directory). is_none (get z.partings l.node)) directory-same ∙ l.leaves;
          unknown = ap (λ z. is_known z (waits_at (node_of w y).pid one)) directory-same ∙ l.unknown;
        };
      }) tt (broken.not_about y d) tt (broken.no_cancel y))

  later-then : IsLater (node_of w x).caller (node_of w2 x).caller
  later-then =
      elim (cases_eq x p) [
        | inl e ↦
            subst (λ y. IsLater (node_of w y).caller (node_of w2 y).caller) (sym e)
            (subst (λ (m : Node). IsLater (node_of w p).caller m.caller) (sym changes.here) broken.later)
        | inr other ↦
            same-later (node_of w x).caller (node_of w2 x).caller
            (ap (λ (m : Node). m.caller) (sym (changes.others x other)))
      ]

  old-then : OldHold (now x)
  old-then =
      old-there (cancel_sight w rest b1 x) (now x)
      (old-still script p w w2 broken.node [] broken.sends entries changes rest rest b1 ended x
      (sym (read (λ (m : Node). m.pid) broken.pid_is x))
      later-then
      (λ m. ap (λ (z : Directory). filter (is_held_cancel_of x) (held_for z m)) directory-same) refl tt
      (broken.no_cancel x)) k.old

  module _ (y : ℕ) (d : y ≢ x) where
    pid-now : ended.pids y ≡ b.pids y
    pid-now = ap (λ f. f y) broken.pids

    struck-then : is_struck (living_at b.whole (b.pids y)) ≡ true → is_struck (living_at next (ended.pids y)) ≡ true
    struck-then struck =
        ap (λ q. is_struck (living_at next q)) pid-now
        ∙ still-struck w w2 b1 ended p x withdrawal (reply_alone reply) whole enters (b.pids y) (enters.apart y d) refl
        struck

    doomed-was : is_doomed (living_at next (ended.pids y)) ≡ true → is_doomed (living_at b.whole (b.pids y)) ≡ true
    doomed-was doomed =
        was-doomed w w2 b1 ended p x withdrawal (reply_alone reply) whole enters (b.pids y)
        (λ r is. (r, sym (ap (λ z. body_in z (Proc (b.pids y))) broken.kernel) ∙ is, refl))
        (sym (ap (λ q. is_doomed (living_at next q)) pid-now) ∙ doomed)

    other-stays : 1 ≤ y → y ≤ node_count script → CancelHolds y (owing_of p after) (now y)
    other-stays low_y high_y =
        cancel-stays y (owing_of p before) (owing_of p after) (seen y) (now y) (same-then y d)
        (record {
          owed = λ none. sym (k.owed_else y d) ∙ none;
          struck = struck-then;
          doomed = λ none doomed. doomed-was doomed;
          strikes = λ owed some. struck-then
              ((k.said y low_y high_y).owed (sym (k.owed_else y d) ∙ owed)
              (ap (λ (c : Caller). is_some c.under_way) (same-then y d).caller ∙ some));
        }) (k.said y low_y high_y)

  own-over : CancelHolds x (owing_of p after) (now x)
  own-over =
      over-holds x (owing_of p after) (now x) old-then
      (ap (λ f. f x) broken.cancel ∙ ap (λ u. if u then NoCancel else b.cancel x) (eq-eqb x x refl))
      (over (nat_eq x p) refl)
      (λ owed some. absurd (false≢true
      (sym (ap is_some (none-now (eq-eqb x p (owed-only p after x owed)))) ∙ some)))
    where
      over : (own : Bool) → nat_eq x p ≡ own → IsOver (cancel_sight w2 rest ended x)
      over true is = inl (none-now is)
      over false is = inr (ap has_reply (broken.place ∙ ap (λ u. place_by u p (replies.Fail Eintr)) is))

  cancels-then : (y : ℕ) → 1 ≤ y → y ≤ node_count script → CancelHolds y (owing_of p after) (now y)
  cancels-then y low_y high_y =
      elim (cases_eq y x) [
        | inl e ↦ subst (λ q. CancelHolds q (owing_of p after) (now q)) (sym e) own-over
        | inr d ↦ other-stays y d low_y high_y
      ]

  calls-then : AreStill b.call broken.beside.call
  calls-then y =
      elim (cases_eq y x) [
        | inl e ↦
            subst (λ q. IsStillOrWoken (b.call q) (broken.beside.call q)) (sym e)
            broken.over
        | inr d ↦ is_still (sym (broken.others y d))
      ]

  -- It has its reply, and all holds.
  pub broken-off : WaitEnds script v p next_step rest after b
  broken-off =
      record {
        beside = ended;
        holds = caught-up-with script w2 rest (owing_of p after) broken.beside next broken.beside.cancel broken.holds
            (whole-if p after w2 ended
            (entered-whole w w2 b1 ended p x withdrawal (reply_alone reply) whole enters))
            (λ y low_y high_y. cancel-if-of p after y (now y) (cancels-then y low_y high_y));
        calls = calls-then;
      }
