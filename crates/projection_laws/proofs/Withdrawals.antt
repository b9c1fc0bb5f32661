-- How many withdrawals there are of a call that has no reply and may have to wait: one, where a signal has interrupted
-- it, and none before.
use Rattle.std.proofs.Common.{◌≡◌, ◌≢◌, ◌⊎◌, ℕ, ◌+◌, ◌≤◌, Bool, true, false, ◌&&◌, nat_eq, cond, List, [], ◌∷◌, ◌++◌, filter, Option, Some, None, is_some, Contains, refl, ap, sym, subst, ◌∙◌, inl, inr, arith}
use Rattle.std.specs.Prelude.{count_by}
use Rattle.std.proofs.lemmas.Bool.{eq-eqb, eqb-true, false≢true}
use Rattle.std.proofs.lemmas.List.Sums.{sum_by-cons}
use Rattle.pico_base.specs.declared.call.Call.{Call}
use Rattle.pico_base.specs.declared.call.Call.TheVariants as calls
use Rattle.pico_base.specs.declared.call.Home.TheVariants as homes
use Rattle.pico_base.specs.declared.numbers.Kind.{Kind}
use Rattle.pico_base.specs.declared.numbers.Kind.TheVariants as kinds
use Rattle.pico_base.specs.declared.numbers.Name.{Name}
use Rattle.pico_base.specs.declared.script.Script.{Script}
use Rattle.pico_base.specs.Home.{home_of}
use Rattle.rpc_frame.specs.declared.asked.Asked.{Asked}
use Rattle.rpc_frame.specs.declared.frame.Frame.{Frame}
use Rattle.rpc_frame.specs.declared.frame.Frame.TheVariants as frames
use Rattle.kernel_laws.proofs.Members.{contains-filtered, contains-first}
use Rattle.waiting_model.specs.Calls.{is_withdrawal, may_park, waits_at}
use Rattle.waiting_model.specs.Kernel.{living_at}
use Rattle.waiting_model.specs.Marks.{Alive}
use Rattle.entry_laws.proofs.Names.{same-name}
use Rattle.node_model.specs.declared.held.Held.{Held}
use Rattle.node_model.specs.declared.held.Held.TheVariants.{Request, Ending}
use Rattle.node_model.specs.Directory.{held_for}
use Rattle.node_model.specs.Kinds.{is_object}
use Rattle.node_model.specs.Leases.{takes_number}
use Rattle.world_model.specs.Census.{one_if}
use Rattle.world_model.specs.Node.{Node, asked_here}
use Rattle.world_model.specs.World.{World, node_count, size, stream}
use Rattle.world_laws.specs.Callers.{HasCall, IsJustThere, call_sight, frame_at, is_about, is_held_at, is_in_hand, is_in_stream, may_be_in, only_if}
use Rattle.world_laws.specs.Cancels.{CallMayWait, CancelHolds, CancelSight, FollowsItsCall, IsCancelFrame, IsCancelItem, IsCancelOf, LeadsNowhere, MayBeInterrupted, Nothing, OfCall, WaitsForChild, asked_as, cancel_held_at, cancel_in_hand, cancel_in_stream, cancel_sight, is_cancel_of, is_doomed, is_held_cancel_of, is_held_of_call, is_of_call, is_struck}
use Rattle.world_laws.specs.Invariant.{Holds}
use Rattle.world_laws.specs.Places.{AsksLease, Beside, CallPlace, CancelHeld, CancelInHand, CancelPlace, HasLease, InAnswer, NoCancel, Parked, SentTo, ToLeader}
use Rattle.world_laws.specs.Sights.{directory_of, frames_to, is_born_in, node_of}
use Rattle.world_laws.specs.Ways.{under_way_of}
use Rattle.world_laws.proofs.Following.{WaitsAt, waits-at}
use Rattle.world_laws.proofs.Named.{other-name}
use Rattle.world_laws.proofs.Steps.{frames-low}
use Rattle.rest_laws.proofs.Shaped.{HasStream, stream-there}
use Rattle.projection_laws.specs.Projection.{GoesToNobody, IsInterruptedRightly, answers_to, cancels_call, cancels_of, frames_that, item_cancels, items_that}
use Rattle.projection_laws.proofs.CallCounts.{answers-counted, has-call, own-number, pid-is}
use Rattle.projection_laws.proofs.CallPlaces.{is_answer}
use Rattle.projection_laws.proofs.Counts.{both-same, count-among, count-none, frames-at, frames-none, items-none, items-one}
use Rattle.projection_laws.proofs.Views.{each-in, node-here, some-node, stream-in-range, way-there}

-- ---- where it is

abbrev is_cancel : CancelPlace → Bool
is_cancel NoCancel = false
is_cancel place = true

abbrev is_cancel_sent : CancelPlace → Bool
is_cancel_sent ToLeader = true
is_cancel_sent (SentTo h) = true
is_cancel_sent place = false

abbrev cancel_to : CancelPlace → ℕ
cancel_to (SentTo h) = h
cancel_to place = 1

abbrev cancel_from : CancelPlace → ℕ → ℕ
cancel_from ToLeader p = p
cancel_from place p = 1

cancel-stream-as : (place : CancelPlace) (p to sender : ℕ) → cancel_in_stream place p to sender
    ≡ (is_cancel_sent place && (nat_eq to (cancel_to place) && nat_eq sender (cancel_from place p)))
cancel-stream-as NoCancel p to sender = refl
cancel-stream-as ToLeader p to sender = refl
cancel-stream-as (SentTo h) p to sender = refl
cancel-stream-as (CancelHeld name) p to sender = refl
cancel-stream-as CancelInHand p to sender = refl

-- the frame of a call is no withdrawal
frame-no-cancel : (n : Node) (place : CallPlace) (asked : Asked) → cancels_call n (frame_at place asked) ≡ false
frame-no-cancel n Parked asked = refl
frame-no-cancel n place asked = refl

unwithdrawn : (call : Call) → may_park call ≡ true → is_withdrawal call ≡ false
unwithdrawn (calls.Withdraw name) parks = absurd (false≢true parks)
unwithdrawn call parks = refl

-- ---- a pair in which the second counts

never-ends-so : {A B : Type 0} (xs : List A) (t : Bool) (x : A) → t ≡ true → [] ≡ xs ++ only_if t x → B
never-ends-so {A} [] true x h e = absurd (differ e)
  where
    differ : [] ≡ x ∷ [] → ⊥
    differ g = cc
never-ends-so {A} (y ∷ ys) true x h e = absurd (differ e)
  where
    differ : [] ≡ y ∷ (ys ++ x ∷ []) → ⊥
    differ g = cc
never-ends-so xs false x h e = absurd (false≢true h)

abbrev counted : {A : Type 0} → (A → Bool) → A → ℕ
counted test y = cond (test y) 1 0

count-second : {A : Type 0} (test : A → Bool) (u : Bool) (y : A) → test y ≡ true
    → count_by test (only_if u y) ≡ one_if u
count-second test false y passes = refl
count-second test true y passes = ap (λ s. let n : ℕ = 0 + one_if s in n) passes

count-pair : {A : Type 0} (test : A → Bool) (t u : Bool) (x y : A) → test x ≡ false → test y ≡ true
    → count_by test (only_if t x ++ only_if u y) ≡ one_if u
count-pair test false u x y none passes = count-second test u y passes
count-pair test true u x y none passes =
    let first : counted test x ≡ 0 = ap (λ s. cond s 1 0) none
    in let second = count-second test u y passes
    in let both = sum_by-cons (counted test) x (only_if u y)
    in omega (arith, first, second, both)

-- ---- which calls wait

takes-none : (kind : Kind) (child : Option ℕ) (nohang : Bool)
    → takes_number kind (calls.WaitPid child nohang) ≡ false
takes-none kinds.Proc child nohang = refl
takes-none kinds.Msg child nohang = refl
takes-none kinds.Sem child nohang = refl

-- one that is no call on a queue or a set is a `waitpid`, which waits at its caller alone
parked-alone : (pid : ℕ) (call : Call) (place : CallPlace) → may_park call ≡ true
    → is_object (waits_at pid call) ≡ false → may_be_in place (home_of pid call) call ≡ true → place ≡ Parked
parked-alone pid (calls.MsgSnd id class text nowait) place parks own may = absurd (false≢true (sym own))
parked-alone pid (calls.MsgRcv id class limit noerror nowait) place parks own may = absurd (false≢true (sym own))
parked-alone pid (calls.SemOp id steps) place parks own may = absurd (false≢true (sym own))
parked-alone pid (calls.WaitPid child nohang) Parked parks own may = refl
parked-alone pid (calls.WaitPid child nohang) (AsksLease kind) parks own may =
    absurd (false≢true (sym (takes-none kind child nohang) ∙ may))
parked-alone pid (calls.WaitPid child nohang) (HasLease kind first) parks own may =
    absurd (false≢true (sym (takes-none kind child nohang) ∙ may))
parked-alone pid (calls.WaitPid child nohang) place parks own may = absurd (false≢true may)
parked-alone pid call place parks own may = absurd (false≢true parks)

-- ---- a call without a reply

module _ (script : Script) (w : World) (b : Beside) (holds : Holds script w [] b) (p : ℕ) (low : 1 ≤ p)
    (high : p ≤ node_count script) (call : Call) (under : under_way_of w p ≡ Some call) (parks : may_park call ≡ true)
    (unanswered : answers_to w p ≡ 0) where
  abbrev n : Node
  n = node_of w p

  abbrev place : CallPlace
  place = b.call p

  abbrev cancel : CancelPlace
  cancel = b.cancel p

  abbrev x : CancelSight
  x = cancel_sight w [] b p

  abbrev name : Name
  name = waits_at n.pid call

  has : HasCall script p (is_born_in w) (call_sight w [] b p) call
  has = has-call script w b holds p low high call under

  cancel-holds : CancelHolds p Nothing x
  cancel-holds = holds.cancels p low high

  of-call : OfCall p false x place (Some call)
  of-call = subst (λ o. OfCall p false x place o) under cancel-holds.of_call

  no-answer : is_answer place ≡ false
  no-answer = by-test (is_answer place) refl
    where
      by-test : (t : Bool) → is_answer place ≡ t → is_answer place ≡ false
      by-test false e = e
      by-test true e =
          let count = answers-counted script w b holds p low high call under ∙ ap (λ t. let m : ℕ = one_if t in m) e
          in absurd (omega (arith, unanswered, count))

  -- ---- on a queue or a set

  module _ (object : is_object name ≡ true) where
    at-object : WaitsAt n.pid call
    at-object = waits-at n.pid call (ap (λ t. t && is_object name) parks ∙ object)

    -- it may be withdrawn
    may-wait : CallMayWait p false x call name
    may-wait = by-place place (ap (λ h. may_be_in place h call) (sym at-object.home) ∙ has.home) no-answer of-call
      where
        waits-is : (may_park call && is_object name) ≡ true
        waits-is = ap (λ t. t && is_object name) parks ∙ object

        by-place : (q : CallPlace) → may_be_in q (homes.At name) call ≡ true → is_answer q ≡ false
            → OfCall p false x q (Some call) → CallMayWait p false x call name
        by-place Parked may free h = absurd (false≢true may)
        by-place (InAnswer g reply) may free h = absurd (false≢true (sym free))
        by-place q may free h = subst (λ t. MayBeInterrupted p false x call name t false) waits-is h

    follows : FollowsItsCall p x (asked_as x call) (asked_as x (calls.Withdraw name))
    follows = let may : CallMayWait p false x call name = may-wait in may.follows

    abbrev withdrawal : Asked
    withdrawal = asked_as x (calls.Withdraw name)

    -- ---- frames

    not-of-call : (to sender : ℕ) (f : Frame) → is_of_call p n.caller.ticket to sender f ≡ false
        → cancels_call n f ≡ false
    not-of-call to sender (frames.Cancel asked) e =
        ap (λ q. nat_eq asked.caller q && nat_eq asked.ticket n.caller.ticket)
        (own-number script w b holds p low high call under)
        ∙ e
    not-of-call to sender f e = refl

    frame-counts : cancels_call n (frames.Cancel withdrawal) ≡ true
    frame-counts = both-same n.number n.caller.ticket

    in-stream : (to sender : ℕ) → 1 ≤ to → 1 ≤ sender → count_by (cancels_call n) (stream w to sender)
        ≡ one_if (is_cancel_sent cancel && (nat_eq to (cancel_to cancel) && nat_eq sender (cancel_from cancel p)))
    in-stream to sender low_to low_from =
        ap (count_by (cancels_call n)) (sym (frames-low w to sender low_to low_from))
        ∙ count-among (cancels_call n) (is_of_call p n.caller.ticket to sender) (frames_to w to sender)
        (λ f at none. not-of-call to sender f none)
        ∙ ap (count_by (cancels_call n)) (follows.in_streams to sender)
        ∙ count-pair (cancels_call n) (is_in_stream place p to sender) (cancel_in_stream cancel p to sender)
        (frame_at place (asked_as x call)) (frames.Cancel withdrawal) (frame-no-cancel n place (asked_as x call))
        frame-counts
        ∙ ap one_if (cancel-stream-as cancel p to sender)

    sent-range : is_cancel_sent cancel ≡ true → ((1 ≤ cancel_to cancel) × (cancel_to cancel ≤ size w))
        × ((1 ≤ cancel_from cancel p) × (cancel_from cancel p ≤ size w))
    sent-range sent =
        let to : ℕ = cancel_to cancel
        in let sender : ℕ = cancel_from cancel p
        in let here : cancel_in_stream cancel p to sender ≡ true =
        cancel-stream-as cancel p to sender
        ∙ ap (λ t. t && (nat_eq to to && nat_eq sender sender)) sent ∙ both-same to sender
        in let s : HasStream w to sender =
        stream-there w to sender
        (λ none. never-ends-so (only_if (is_in_stream place p to sender) (frame_at place (asked_as x call)))
        (cancel_in_stream cancel p to sender) (frames.Cancel withdrawal) here
        (sym (ap (filter (is_of_call p n.caller.ticket to sender)) none) ∙ follows.in_streams to sender))
        in let range = stream-in-range script w b holds to sender s
        in ((s.low, range.0), (s.low_from, range.1))

    frames-are : frames_that w (λ to sender. cancels_call n) ≡ one_if (is_cancel_sent cancel)
    frames-are =
        frames-at w (λ to sender. cancels_call n) (is_cancel_sent cancel) (cancel_to cancel) (cancel_from cancel p)
        sent-range in-stream

    -- ---- held items

    not-held-of-call : (item : Held) → is_held_of_call p n.caller.ticket item ≡ false → item_cancels n item ≡ false
    not-held-of-call (Request asked) e =
        ap (λ q. nat_eq asked.caller q && (nat_eq asked.ticket n.caller.ticket && is_withdrawal asked.call))
        (own-number script w b holds p low high call under)
        ∙ nor (nat_eq asked.caller p) (nat_eq asked.ticket n.caller.ticket) (is_withdrawal asked.call) e
      where
        nor : (s t u : Bool) → (s && t) ≡ false → (s && (t && u)) ≡ false
        nor false t u h = refl
        nor true false u h = refl
        nor true true u h = absurd (false≢true (sym h))
    not-held-of-call (Ending parcel) e = refl

    call-no-cancel : item_cancels n (Request (asked_as x call)) ≡ false
    call-no-cancel = by-tests (nat_eq n.number n.number) (nat_eq n.caller.ticket n.caller.ticket)
      where
        by-tests : (s t : Bool) → (s && (t && is_withdrawal call)) ≡ false
        by-tests false t = refl
        by-tests true false = refl
        by-tests true true = unwithdrawn call parks

    item-counts : item_cancels n (Request withdrawal) ≡ true
    item-counts =
        ap (λ t. t && (nat_eq n.caller.ticket n.caller.ticket && true)) (eq-eqb n.number n.number refl)
        ∙ ap (λ t. t && true) (eq-eqb n.caller.ticket n.caller.ticket refl)

    in-list : (other : Name) → count_by (item_cancels n) (held_for (directory_of w) other)
        ≡ one_if (cancel_held_at cancel other)
    in-list other =
        count-among (item_cancels n) (is_held_of_call p n.caller.ticket) (held_for (directory_of w) other)
        (λ item at none. not-held-of-call item none)
        ∙ ap (count_by (item_cancels n)) (follows.held_for_names other)
        ∙ count-pair (item_cancels n) (is_held_at place other) (cancel_held_at cancel other)
        (Request (asked_as x call)) (Request withdrawal) call-no-cancel item-counts

    none-held : ((other : Name) → cancel_held_at cancel other ≡ false) → items_that w (item_cancels n) ≡ 0
    none-held none =
        items-none (item_cancels n) w holds.leading
        (node-here script w b holds 1 (omega arith) (some-node script w b holds))
        (λ other. in-list other ∙ ap (λ t. let m : ℕ = one_if t in m) (none other))

    one-held : (m : Name) → cancel ≡ CancelHeld m → items_that w (item_cancels n) ≡ 1
    one-held m at =
        items-one (item_cancels n) w holds.leading
        (node-here script w b holds 1 (omega arith) (some-node script w b holds)) m
        (λ other d. in-list other ∙ ap (λ c. let k : ℕ = one_if (cancel_held_at c other) in k) at
        ∙ ap (λ t. let k : ℕ = one_if t in k) (other-name m other (λ e. d (sym e))))
        ∙ in-list m ∙ ap (λ c. let k : ℕ = one_if (cancel_held_at c m) in k) at
        ∙ ap (λ t. let k : ℕ = one_if t in k) (same-name m)

    -- ---- all

    -- there is one, or none
    cancels-are : (c : CancelPlace) → cancel ≡ c → cancels_of w n ≡ one_if (is_cancel c)
    cancels-are c e = by-place c e
      where
        sent : (t : Bool) → is_cancel_sent cancel ≡ t → frames_that w (λ to sender. cancels_call n) ≡ one_if t
        sent t h = frames-are ∙ ap (λ u. let k : ℕ = one_if u in k) h

        unheld : ((other : Name) → cancel_held_at c other ≡ false) → items_that w (item_cancels n) ≡ 0
        unheld none = none-held (λ other. ap (λ d. cancel_held_at d other) e ∙ none other)

        by-place : (d : CancelPlace) → cancel ≡ d → cancels_of w n ≡ one_if (is_cancel d)
        by-place NoCancel h =
            let first = sent false (ap is_cancel_sent h)
            in let second = none-held (λ other. ap (λ d. cancel_held_at d other) h)
            in omega (arith, first, second)
        by-place ToLeader h =
            let first = sent true (ap is_cancel_sent h)
            in let second = none-held (λ other. ap (λ d. cancel_held_at d other) h)
            in omega (arith, first, second)
        by-place (SentTo g) h =
            let first = sent true (ap is_cancel_sent h)
            in let second = none-held (λ other. ap (λ d. cancel_held_at d other) h)
            in omega (arith, first, second)
        by-place (CancelHeld m) h =
            let first = sent false (ap is_cancel_sent h)
            in let second = one-held m h
            in omega (arith, first, second)
        by-place CancelInHand h =
            never-ends-so (only_if (is_in_hand place) (Request (asked_as x call))) (cancel_in_hand cancel)
            (Request withdrawal) (ap cancel_in_hand h) follows.in_hand

    -- a withdrawal is of a process that a signal has struck
    struck-by : 1 ≤ cancels_of w n → is_struck x.alive ≡ true
    struck-by some =
        let may : CallMayWait p false x call name = may-wait
        in may.struck (λ none. let count = cancels-are NoCancel none in omega (arith, some, count))

    -- the call goes where it won't wait
    nobody-there : LeadsNowhere x name → GoesToNobody w n call
    nobody-there l =
        record {
          node = l.node;
          on_way = way-there script w b holds l.node 1 (frames.Forward (asked_here n call)) there;
          leader = node_of w 1;
          is_leader = node-here script w b holds 1 (omega arith) (some-node script w b holds);
          leaves = l.leaves;
          unknown = l.unknown;
        }
      where
        just : IsJustThere p (call_sight w [] b p) (asked_here n call)
        just = has.just_there

        abouts : filter (is_about p l.node 1) (frames_to w l.node 1) ≡ frames.Forward (asked_here n call) ∷ []
        abouts =
            just.in_streams l.node 1
            ∙ ap (λ c. only_if (is_in_stream c p l.node 1) (frame_at c (asked_here n call))) l.is
            ∙ ap (λ t. only_if t (frames.Forward (asked_here n call))) (both-same l.node 1)

        there : Contains (frames_to w l.node 1) (frames.Forward (asked_here n call))
        there =
            (contains-filtered (is_about p l.node 1) (frames_to w l.node 1) (frames.Forward (asked_here n call))
            (subst (λ fs. Contains fs (frames.Forward (asked_here n call))) (sym abouts)
            (contains-first (frames.Forward (asked_here n call)) []))).0

    -- and one that is doomed is interrupted
    doomed-by : is_doomed x.alive ≡ true → (cancels_of w n ≡ 1) ⊎ GoesToNobody w n call
    doomed-by doomed = by-place cancel refl
      where
        may : CallMayWait p false x call name
        may = may-wait

        by-place : (c : CancelPlace) → cancel ≡ c → (cancels_of w n ≡ 1) ⊎ GoesToNobody w n call
        by-place NoCancel e = inr (nobody-there (may.nowhere (may.interrupted refl doomed) e))
        by-place ToLeader e = inl (cancels-are ToLeader e)
        by-place (SentTo h) e = inl (cancels-are (SentTo h) e)
        by-place (CancelHeld m) e = inl (cancels-are (CancelHeld m) e)
        by-place CancelInHand e = inl (cancels-are CancelInHand e)

  -- ---- of a child

  -- a strike ends such a wait at once
  child-undoomed : is_object name ≡ false → is_doomed x.alive ≡ false
  child-undoomed own =
      let at : place ≡ Parked = parked-alone n.pid call place parks own has.home
      in let h : OfCall p false x Parked (Some call) = subst (λ c. OfCall p false x c (Some call)) at of-call
      in let child : WaitsForChild false x = h.1
      in child.undoomed refl

  -- and no withdrawal is of it: those that there are, are of earlier calls
  module _ (own : is_object name ≡ false) where
    earlier : (asked : Asked) → IsCancelOf x asked → nat_eq asked.ticket n.caller.ticket ≡ false
    earlier asked of = by-test (nat_eq asked.ticket n.caller.ticket) refl
      where
        by-test : (t : Bool) → nat_eq asked.ticket n.caller.ticket ≡ t → nat_eq asked.ticket n.caller.ticket ≡ false
        by-test false e = e
        by-test true e =
            absurd (false≢true (sym own ∙ of.current (eqb-true asked.ticket n.caller.ticket e) call under))

    and-false : (s : Bool) → (s && false) ≡ false
    and-false true = refl
    and-false false = refl

    no-frame : (f : Frame) → IsCancelFrame x f → cancels_call n f ≡ false
    no-frame (frames.Cancel asked) of =
        ap (λ t. nat_eq asked.caller n.number && t) (earlier asked of) ∙ and-false (nat_eq asked.caller n.number)
    no-frame f of = absurd of

    no-item : (item : Held) → IsCancelItem x item → item_cancels n item ≡ false
    no-item (Request asked) of =
        ap (λ t. nat_eq asked.caller n.number && (t && is_withdrawal asked.call)) (earlier asked of)
        ∙ and-false (nat_eq asked.caller n.number)
    no-item (Ending parcel) of = refl

    no-other-frame : (f : Frame) → is_cancel_of p f ≡ false → cancels_call n f ≡ false
    no-other-frame (frames.Cancel asked) e =
        ap (λ q. nat_eq asked.caller q && nat_eq asked.ticket n.caller.ticket)
        (own-number script w b holds p low high call under)
        ∙ ap (λ t. t && nat_eq asked.ticket n.caller.ticket) e
    no-other-frame f e = refl

    no-other-item : (item : Held) → is_held_cancel_of p item ≡ false → item_cancels n item ≡ false
    no-other-item (Request asked) e =
        ap (λ q. nat_eq asked.caller q && (nat_eq asked.ticket n.caller.ticket && is_withdrawal asked.call))
        (own-number script w b holds p low high call under)
        ∙ nor (nat_eq asked.caller p) (nat_eq asked.ticket n.caller.ticket) (is_withdrawal asked.call) e
      where
        nor : (s t u : Bool) → (s && u) ≡ false → (s && (t && u)) ≡ false
        nor false t u h = refl
        nor true false u h = refl
        nor true true u h = h
    no-other-item (Ending parcel) e = refl

    child-uncancelled : cancels_of w n ≡ 0
    child-uncancelled =
        let in_streams =
        frames-none w (λ to sender. cancels_call n)
        (λ to sender low_to low_from. ap (count_by (cancels_call n)) (sym (frames-low w to sender low_to low_from))
        ∙ count-among (cancels_call n) (is_cancel_of p) (frames_to w to sender) (λ f at none. no-other-frame f none)
        ∙ count-none (cancels_call n) (x.cancels to sender)
        (λ f at. no-frame f
        (each-in (IsCancelFrame x) (x.cancels to sender) f (cancel-holds.frames to sender) at)))
        in let in_lists =
        items-none (item_cancels n) w holds.leading
        (node-here script w b holds 1 (omega arith) (some-node script w b holds))
        (λ other. count-among (item_cancels n) (is_held_cancel_of p) (held_for (directory_of w) other)
        (λ item at none. no-other-item item none)
        ∙ count-none (item_cancels n) (x.held_cancels other)
        (λ item at. no-item item
        (each-in (IsCancelItem x) (x.held_cancels other) item (cancel-holds.held other) at)))
        in omega (arith, in_streams, in_lists)

  -- ---- any

  is-doomed : {A : Type 0} (o : Option A) → o ≢ None → is_some o ≡ true
  is-doomed None some = absurd (some refl)
  is-doomed (Some v) some = refl

  -- A call that may have to wait is interrupted where it should be.
  pub is-interrupted : (alive : Alive) → living_at b.whole n.pid ≡ Some alive
      → IsInterruptedRightly w b.whole n call alive
  is-interrupted alive lives =
      record {
        struck = λ some. sym (ap is_struck sees) ∙ struck-at (is_object name) refl some;
        one = λ doomed. by-object (is_object name) refl (ap is_doomed sees ∙ is-doomed alive.row.signals.doom doomed);
      }
    where
      sees : x.alive ≡ Some alive
      sees = ap (living_at b.whole) (sym (pid-is script w b holds p low high call under)) ∙ lives

      struck-at : (t : Bool) → is_object name ≡ t → 1 ≤ cancels_of w n → is_struck x.alive ≡ true
      struck-at true object some = struck-by object some
      struck-at false own some = absurd (let none = child-uncancelled own in omega (arith, some, none))

      by-object : (t : Bool) → is_object name ≡ t → is_doomed x.alive ≡ true
          → (cancels_of w n ≡ 1) ⊎ GoesToNobody w n call
      by-object true object doomed = doomed-by object doomed
      by-object false own doomed = absurd (false≢true (sym (child-undoomed own) ∙ doomed))
