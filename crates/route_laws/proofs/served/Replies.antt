-- A call in hand has its reply, at a node: the reply is on its way to its caller, or ends the node's own call at once.
-- What is left to show is what the line leaves, the withdrawals, the names, the numbers, and the node.
use Rattle.std.proofs.Common.{◌≡◌, ◌≢◌, ℕ, ◌≤◌, Bool, true, false, ◌&&◌, cond, if◌then◌else◌, List, [], ◌∷◌, ◌++◌, filter, flat_map, nat_eq, Some, refl, ap, sym, subst, ◌∙◌, inl, inr}
use Rattle.std.specs.List.{AllByRecursion}
use Rattle.std.proofs.lemmas.Bool.{cases_eq, eq-eqb, eqb-true, ne_eqb, false≢true}
use Rattle.std.proofs.lemmas.List.Elements.{Contains-append_right}
use Rattle.pico_base.specs.declared.numbers.Kind.{Kind}
use Rattle.pico_base.specs.declared.numbers.Name.{Name}
use Rattle.pico_base.specs.declared.numbers.Name.TheVariants.{Proc}
use Rattle.pico_base.specs.declared.reply.Entry.{Entry}
use Rattle.pico_base.specs.declared.reply.Reply.{Reply}
use Rattle.pico_base.specs.declared.script.Script.{Script}
use Rattle.rpc_frame.specs.declared.asked.Asked.{Asked}
use Rattle.rpc_frame.specs.declared.frame.Frame.{Frame}
use Rattle.rpc_frame.specs.declared.frame.Frame.TheVariants as frames
use Rattle.number_maps.specs.Maps.{get, is_used}
use Rattle.kernel_model.specs.Kernel.{Kernel}
use Rattle.kernel_model.specs.Fitting.{Place, Places, place_after}
use Rattle.waiting_model.specs.Kernel as whole_kernels
use Rattle.node_model.specs.declared.held.Held.{Held}
use Rattle.node_model.specs.declared.held.Held.TheVariants.{Request, Ending}
use Rattle.node_model.specs.Directory.{held_for, maker, stays, Directory}
use Rattle.node_model.specs.Bodies.{Body, body_in, waiters_of}
use Rattle.node_model.specs.Caller.{Caller, answer_call, caller_place}
use Rattle.world_model.specs.Node.{Node, Left}
use Rattle.world_model.specs.World.{World, node_count}
use Rattle.entry_laws.specs.Entering.{HasHistory, is_used_name}
use Rattle.world_laws.specs.Places.{CallPlace, DeedPlace, CancelPlace, Idle, InAnswer, InCheckpoint, Beside, call_in, InTable}
use Rattle.world_laws.specs.Sights.{node_of, frames_to, directory_of, stage_of, is_born_in}
use Rattle.world_laws.specs.Plays.{plays, begin}
use Rattle.world_laws.specs.Names.{NameHolds, name_sight, range_steps_of, held_at}
use Rattle.world_laws.specs.Callers.{CallSight, call_sight, CallHolds, HasCall, IsSoFar, IsToBeMade, asked_of, only_if, is_about, is_item_about, is_end_place, is_end_stage, is_waiter_of}
use Rattle.world_laws.specs.Cancels.{CancelIf, Owing, cancel_sight, is_cancel_of}
use Rattle.world_laws.specs.Wholes.{WholeIf}
use Rattle.world_laws.specs.Ranges.{KindHolds, kind_sight, FewRanges, KeysHold, has_lease}
use Rattle.world_laws.specs.Ways.{under_way_of}
use Rattle.world_laws.specs.Families.{NodeHolds}
use Rattle.world_laws.specs.Invariant.{HoldsOwing, MayBe}
use Rattle.world_laws.proofs.Stays.{IsMore, SameCall, call-stays, kind-stays, name-stays}
use Rattle.world_laws.proofs.Sends.{frame_if}
use Rattle.world_laws.proofs.Cancels.{SameCancel, is_item_of}
use Rattle.world_laws.proofs.Changes.{Changes, filter-is-list-map, frames_if, made-after, sent, stayed}
use Rattle.world_laws.proofs.Frames.{ArePlain, BringNoBirth, BringNoLease}
use Rattle.world_laws.proofs.LeftAlone.{AreNotAbout, SameCaller, kind-left-alone, name-left-alone, same-directory}
use Rattle.rule_laws.proofs.CallMoves.{SameButCall}
use Rattle.rule_laws.proofs.own.Entries.{EntryLeaves}
use Rattle.rule_laws.proofs.own.EntryMoves.{IsEntryMove, entry-born, entry-keeps, ranges-still, steps-still, few-after}
use Rattle.route_laws.proofs.served.CallThen.{over_at, process-goes-on, reply-on-its-way}
use Rattle.route_laws.proofs.hand.Answering.{answered_at, caller-born, caller-forked, pid-in-hand}
use Rattle.route_laws.proofs.hand.HandMoves.{IsCallOf, IsFirst, first, in-no-stream, waits-nowhere}
use Rattle.kernel_model.specs.Footprint.{used_of}
use Rattle.node_model.specs.Kinds.{for_kind, get_named, kind_of, number_of}
use Rattle.rule_laws.proofs.own.Rebodied.{IsBodyOf, name-rebodied, name-seen-rebodied}

-- ---- where the reply is

-- the node's own call is over at once; the reply to another's is on its way from the node
abbrev pub place_by : Bool → ℕ → Reply → CallPlace
place_by true p reply = Idle
place_by false p reply = InAnswer p reply

-- the node's own call needs no frame; another's is answered by one
abbrev pub sends_by : Bool → Asked → Reply → List (ℕ × Frame)
sends_by true asked reply = []
sends_by false asked reply = (asked.caller, frames.Answer asked.ticket reply) ∷ []

-- the node's own caller goes on; for another's call it stays as it is
abbrev pub caller_by : Script → Bool → Asked → Reply → Caller → Caller
caller_by script true asked reply k = answer_call script asked.caller k asked.call reply
caller_by script false asked reply k = k

-- What stands beside the world then, but for the numbers of processes and for where calls are.
pub record Then : Type 0 where
  pub lines : List Entry
  pub kernel : Kernel
  pub places : Places
  pub whole : whole_kernels.Kernel
  pub deed : Name → DeedPlace
  pub body : Name → Body
  pub cancel : ℕ → CancelPlace

-- with the calls in these places, and the processes' numbers as before
abbrev pub beside_then : Beside → (ℕ → CallPlace) → Then → Beside
beside_then b calls a =
    record {
      lines = a.lines;
      kernel = a.kernel;
      places = a.places;
      whole = a.whole;
      pids = b.pids;
      deed = a.deed;
      call = calls;
      body = a.body;
      cancel = a.cancel;
    }

-- a node of the script that is born
pub record IsAtWork (script : Script) (w : World) (p : ℕ) : Type 0 where
  pub low : 1 ≤ p
  pub high : p ≤ node_count script
  pub born : is_born_in w p ≡ true

-- ---- the reply

-- What there is to show: the call's line leads there, and in the history its process is behind the call; the node is n
-- then; and of withdrawals and of the kernel in which callers wait.
pub record IsReplied (script : Script) (w w' : World) (asked : Asked) (rest : List Held) (owes owes' : Owing)
    (b : Beside) (a : Then) (p : ℕ) (n : Node) (own : Bool) (reply : Reply) : Type 0 where
  pub leaves : EntryLeaves b.kernel b.places asked.pid a.kernel a.places
  pub history : HasHistory script a.lines a.kernel a.places
  pub place_is : get a.places asked.pid
      ≡ Some (place_after (caller_place script asked.caller (node_of w asked.caller).caller) asked.call (Some reply))
  -- the node
  pub number : n.number ≡ (node_of w p).number
  pub pid : n.pid ≡ (node_of w p).pid
  pub stage : n.stage ≡ stage_of w p
  pub leases : n.leases ≡ (node_of w p).leases
  pub caller : n.caller ≡ caller_by script own asked reply (node_of w p).caller
  pub node : NodeHolds script b.pids (is_born_in w) p n
  pub keys : KeysHold (node_of w' 1).leader a.kernel
  pub directory : SameButCall asked.caller (directory_of w) (directory_of w')
  pub none_held : (name : Name) → filter (is_item_about asked.caller) (held_for (directory_of w') name) ≡ []
  -- processes whose Checkpoints are on their way keep their rows, and who waits is the same
  pub awaited : (q to : ℕ) → b.deed (Proc q) ≡ InCheckpoint to → body_in a.kernel (Proc q) ≡ body_in b.kernel (Proc q)
  pub deeds : (q : ℕ) → a.deed (Proc q) ≡ b.deed (Proc q)
  pub waiters : (name : Name) → waiters_of (a.body name) ≡ waiters_of (b.body name)
  pub makers_stay : (name : Name) (node : ℕ) → is_used_name b.kernel name ≡ false → is_used_name a.kernel name ≡ true
      → maker (directory_of w) name ≡ Some node → stays (directory_of w) node ≡ true
  -- withdrawals, and the kernel in which callers wait
  pub whole : WholeIf owes w b → WholeIf owes' w' (beside_then b (call_in b.call asked.caller (place_by own p reply)) a)
  pub cancel_of_others : (y : ℕ) → y ≢ asked.caller → a.cancel y ≡ b.cancel y
  pub owed_of_others : (y : ℕ) → y ≢ asked.caller
      → SameCancel (cancel_sight w (Request asked ∷ rest) b y)
      (cancel_sight w' rest (beside_then b (call_in b.call asked.caller (place_by own p reply)) a) y)
      → CancelIf y owes (cancel_sight w (Request asked ∷ rest) b y)
      → CancelIf y owes' (cancel_sight w' rest (beside_then b (call_in b.call asked.caller (place_by own p reply)) a) y)

-- ---- the frames

-- a call that has its reply isn't given a lease
pub no-lease-place : (own : Bool) (p : ℕ) (reply : Reply) (kind : Kind) → has_lease kind (place_by own p reply) ≡ false
no-lease-place true p reply kind = refl
no-lease-place false p reply kind = refl

-- an Answer is about no name,
pub not-about : (own : Bool) (asked : Asked) (reply : Reply) (name : Name) → AreNotAbout name (sends_by own asked reply)
not-about true asked reply name = tt
not-about false asked reply name = (refl, tt)

-- says nothing of an end,
pub plain-sends : (own : Bool) (asked : Asked) (reply : Reply) → ArePlain (sends_by own asked reply)
plain-sends true asked reply = tt
plain-sends false asked reply = (refl, tt)

-- brings no process,
pub no-birth-sends : (own : Bool) (asked : Asked) (reply : Reply) → BringNoBirth (sends_by own asked reply)
no-birth-sends true asked reply = tt
no-birth-sends false asked reply = (refl, tt)

-- brings no lease of any kind,
pub no-lease-sends : (own : Bool) (asked : Asked) (reply : Reply) → BringNoLease (sends_by own asked reply)
no-lease-sends true asked reply = λ kind. tt
no-lease-sends false asked reply = λ kind. (refl, tt)

-- is no withdrawal,
pub no-cancel-sends : (own : Bool) (asked : Asked) (reply : Reply) (y : ℕ)
    → AllByRecursion (λ s. is_cancel_of y s.1 ≡ false) (sends_by own asked reply)
no-cancel-sends true asked reply y = tt
no-cancel-sends false asked reply y = (refl, tt)

-- and concerns no node's call but its caller's
pub of-no-other : (own : Bool) (asked : Asked) (reply : Reply) (p y : ℕ) → y ≢ asked.caller
    → AllByRecursion (λ s. is_about y s.0 p s.1 ≡ false) (sends_by own asked reply)
of-no-other true asked reply p y d = tt
of-no-other false asked reply p y d = (ne_eqb asked.caller y (λ e. d (sym e)), tt)

-- it may come from any node that is born
pub may-be-sends : (script : Script) (w : World) (own : Bool) (asked : Asked) (reply : Reply) (p : ℕ)
    → is_born_in w p ≡ true → AllByRecursion (λ s. MayBe script (is_born_in w) s.0 p s.1) (sends_by own asked reply)
may-be-sends script w true asked reply p born = tt
may-be-sends script w false asked reply p born = (born, tt)

other-by : (p q : ℕ) → nat_eq p q ≡ false → p ≢ q
other-by p q h e = false≢true (sym h ∙ eq-eqb p q e)

-- no node sends one to itself
pub to-others : (own : Bool) (asked : Asked) (reply : Reply) (p : ℕ) → nat_eq asked.caller p ≡ own
    → AllByRecursion (λ s. s.0 ≢ p) (sends_by own asked reply)
to-others true asked reply p is = tt
to-others false asked reply p is = (other-by asked.caller p is, tt)

-- in the stream to a node it is all that is added about that node's call, where it goes there from here
pub sent-answer : (p to sender ticket : ℕ) (reply : Reply) (t s : Bool) → nat_eq to p ≡ t
    → filter (is_about p to sender) (frames_if s (frame_if t (frames.Answer ticket reply) ++ []))
    ≡ only_if (t && s) (frames.Answer ticket reply)
sent-answer p to sender ticket reply true true e = ap (λ u. cond u (frames.Answer ticket reply ∷ []) []) e
sent-answer p to sender ticket reply true false e = refl
sent-answer p to sender ticket reply false true e = refl
sent-answer p to sender ticket reply false false e = refl

-- and where no frame is sent, nothing is added
pub nothing-sent : (p to sender : ℕ) (s : Bool) → filter (is_about p to sender) (frames_if s []) ≡ []
nothing-sent p to sender true = refl
nothing-sent p to sender false = refl

-- ---- the caller

module _ (script : Script) (w : World) (asked : Asked) (rest : List Held) (b : Beside) {owes : Owing}
    (holds : HoldsOwing script w (Request asked ∷ rest) owes b) (asks : IsCallOf script asked) (p : ℕ)
    (at : IsAtWork script w p) (own : Bool) (is_own : nat_eq asked.caller p ≡ own) (reply : Reply) (owes' : Owing)
    (a : Then) (n : Node) (entries : List Entry) (w' : World)
    (r : IsReplied script w w' asked rest owes owes' b a p n own reply)
    (c : Changes script p w w' n [] (sends_by own asked reply) entries) where
  abbrev caller : ℕ
  caller = asked.caller

  abbrev hand : List Held
  hand = Request asked ∷ rest

  abbrev place : CallPlace
  place = place_by own p reply

  abbrev sends : List (ℕ × Frame)
  sends = sends_by own asked reply

  abbrev calls-now : ℕ → CallPlace
  calls-now = call_in b.call caller place

  abbrev moved : Beside
  moved = beside_then b calls-now a

  abbrev x : CallSight
  x = call_sight w hand b caller

  abbrev is-first : IsFirst script caller (is_born_in w) x asked (filter (is_item_about caller) rest)
  is-first = first script w asked rest b holds asks

  has : HasCall script caller (is_born_in w) x is-first.call
  has = is-first.has

  to-be-made : IsToBeMade script caller x is-first.call
  to-be-made = subst (λ z. IsSoFar script caller x is-first.call z) is-first.place_is has.so_far

  call-is : asked.call ≡ is-first.call
  call-is = ap (λ (z : Asked). z.call) is-first.asked_is

  call-holds : CallHolds script caller (is_born_in w) x
  call-holds = holds.calls caller asks.low asks.high

  -- its caller doesn't leave
  no-end : is_end_stage x.stage ≡ false
  no-end = sym call-holds.ends ∙ ap is_end_place is-first.place_is

  own-node : own ≡ true → caller ≡ p
  own-node e = eqb-true caller p (is_own ∙ e)

  other-node : own ≡ false → caller ≢ p
  other-node e = other-by caller p (is_own ∙ e)

  -- what the line leaves, by the caller's process
  pub entry-leaves : EntryLeaves b.kernel b.places (b.pids caller) a.kernel a.places
  entry-leaves =
      subst (λ q. EntryLeaves b.kernel b.places q a.kernel a.places) (pid-in-hand script w asked rest b holds asks)
      r.leaves

  -- the node has the same of its own call, where that isn't the one
  same-by : (t : Bool) → nat_eq caller p ≡ t → n.caller ≡ caller_by script t asked reply (node_of w p).caller
      → p ≢ caller → SameCaller (node_of w p) n
  same-by true is k d = absurd (d (sym (eqb-true caller p is)))
  same-by false is k d = record { number = r.number; pid = r.pid; stage = r.stage; caller = k; leases = r.leases }

  left-by : (t : Bool) → nat_eq caller p ≡ t → n.caller ≡ caller_by script t asked reply (node_of w p).caller
      → n.stage ≡ Left → n.caller.under_way ≡ under_way_of w p
  left-by true is k left =
      absurd (false≢true (sym no-end ∙ ap (λ q. is_end_stage (stage_of w q)) (eqb-true caller p is)
      ∙ ap is_end_stage (sym r.stage ∙ left)))
  left-by false is k left = ap (λ (z : Caller). z.under_way) k

  move : IsEntryMove script w w' hand rest owes owes' b moved p n [] sends caller
  move =
      record {
        entry = entry-leaves;
        history = r.history;
        keys = r.keys;
        forked = caller-forked script w asked rest b holds asks;
        born = caller-born script w asked rest b holds asks;
        awaited = r.awaited;
        stage = r.stage;
        under_way = left-by own is_own r.caller;
        own = same-by own is_own r.caller;
        directory = r.directory;
        node = r.node;
        deeds = r.deeds;
        calls = λ y d. ap (λ t. if t then place else b.call y) (ne_eqb caller y (λ e. d (sym e)));
        hand_of_others = λ y d. sym (ap (λ t. cond t (Request asked ∷ filter (is_item_of y) rest)
            (filter (is_item_of y) rest)) (ne_eqb caller y (λ e. d (sym e))));
        parcels_at_hand = λ parcel at. Contains-append_right (Request asked ∷ []) rest (Ending parcel) at;
        whole = r.whole;
        waiters_of_others = λ y d name. ap (filter (is_waiter_of y)) (r.waiters name);
        cancel_of_others = r.cancel_of_others;
        owed_of_others = r.owed_of_others;
        makers_stay = r.makers_stay;
        plain_taken = tt;
        plain_sent = plain-sends own asked reply;
        no_birth_taken = tt;
        no_birth_sent = no-birth-sends own asked reply;
        of_no_other = λ y d. tt;
        sent_of_no_other = λ y d. of-no-other own asked reply p y d;
        no_cancel_taken = λ y d. tt;
        no_cancel_sent = λ y d. no-cancel-sends own asked reply y;
        may_be_sent = may-be-sends script w own asked reply p at.born;
        to_others = to-others own asked reply p is_own;
      }

  -- the same nodes are born
  pub replied-born : IsMore (is_born_in w) (is_born_in w')
  replied-born =
      entry-born script w w' hand rest owes owes' b moved p n [] sends entries caller at.low at.high holds c move

  -- the call was in no stream
  none-left : (to sender : ℕ) → filter (is_about caller to sender) (c.left to sender) ≡ []
  none-left to sender =
      stayed script p w w' n [] sends entries c (λ t s fs. filter (is_about caller t s) fs)
      (λ t s. filter-is-list-map (is_about caller t s)) tt to sender
      ∙ in-no-stream script w asked rest b holds asks to sender

  frames-now : (to sender : ℕ)
      → filter (is_about caller to sender) (frames_to w' to sender)
      ≡ filter (is_about caller to sender) (sent p sends to sender)
  frames-now to sender =
      made-after script p w w' n [] sends entries c (λ t s fs. filter (is_about caller t s) fs)
      (λ t s. filter-is-list-map (is_about caller t s)) to sender
      ∙ ap (λ fs. fs ++ filter (is_about caller to sender) (sent p sends to sender)) (none-left to sender)

  abbrev was : Place
  was = caller_place script caller x.caller

  place-now : get a.places (b.pids caller) ≡ Some (place_after was is-first.call (Some reply))
  place-now =
      ap (get a.places) (sym (pid-in-hand script w asked rest b holds asks)) ∙ r.place_is
      ∙ ap (λ call. Some (place_after was call (Some reply))) call-is

  waiting-now : (name : Name) → filter (is_waiter_of caller) (waiters_of (a.body name)) ≡ []
  waiting-now name =
      ap (filter (is_waiter_of caller)) (r.waiters name) ∙ waits-nowhere script w asked rest b holds asks name

  -- ---- the reply is on its way

  module _ (other : own ≡ false) where
    abbrev y : CallSight
    y = answered_at x caller p reply (place_after was is-first.call (Some reply)) entry-leaves.lives.alive
        (asked_of x is-first.call)

    call-answered : CallHolds script caller (is_born_in w) y
    call-answered =
        reply-on-its-way script w asked rest b holds asks reply entry-leaves.lives.alive p at.born (other-node other)

    read : {A : Type 0} (f : Node → A) → f (node_of w caller) ≡ f (node_of w' caller)
    read f = sym (ap f (c.others caller (other-node other)))

    answer-sent : (t : Bool) → t ≡ false → (to sender : ℕ)
        → filter (is_about caller to sender) (sent p (sends_by t asked reply) to sender)
        ≡ only_if (nat_eq to caller && nat_eq sender p) (frames.Answer asked.ticket reply)
    answer-sent true e to sender = absurd (false≢true (sym e))
    answer-sent false e to sender =
        sent-answer caller to sender asked.ticket reply (nat_eq to caller) (nat_eq sender p) refl

    place-is : (t : Bool) → t ≡ false → InAnswer p reply ≡ place_by t p reply
    place-is true e = absurd (false≢true (sym e))
    place-is false e = refl

    sight-answered : SameCall y (call_sight w' rest moved caller)
    sight-answered =
        record {
          number = read (λ (m : Node). m.number);
          pid = read (λ (m : Node). m.pid);
          stage = read (λ (m : Node). m.stage);
          caller = read (λ (m : Node). m.caller);
          leases = read (λ (m : Node). m.leases);
          place = sym place-now;
          alive = sym entry-leaves.lives.lives;
          call = place-is own other ∙ sym (ap (λ t. if t then place else b.call caller) (eq-eqb caller caller refl));
          frames_about = λ to sender. ap (λ (z : Asked). only_if (nat_eq to caller && nat_eq sender p)
              (frames.Answer z.ticket reply)) (sym is-first.asked_is)
              ∙ sym (frames-now to sender ∙ answer-sent own other to sender);
          held = λ name. sym (r.none_held name);
          hand = sym is-first.alone;
          waiters = λ name. sym (waiting-now name);
        }

    pub call-in-answer : CallHolds script caller (is_born_in w') (call_sight w' rest moved caller)
    call-in-answer =
        call-stays script caller (is_born_in w) (is_born_in w') _ _ replied-born sight-answered call-answered

  -- ---- the node's own call is over

  module _ (mine : own ≡ true) where
    node-same : node_of w caller ≡ node_of w p
    node-same = ap (node_of w) (own-node mine)

    here : node_of w' caller ≡ n
    here = ap (node_of w') (own-node mine) ∙ c.here

    abbrev z : CallSight
    z = over_at script w asked rest b holds asks reply entry-leaves.lives.alive n.leases

    call-over : CallHolds script caller (is_born_in w) z
    call-over = process-goes-on script w asked rest b holds asks reply entry-leaves.lives.alive n.leases

    read-own : {A : Type 0} (f : Node → A) → f n ≡ f (node_of w p) → f (node_of w caller) ≡ f (node_of w' caller)
    read-own f same = ap f node-same ∙ sym same ∙ sym (ap f here)

    caller-is : (t : Bool) → t ≡ true → n.caller ≡ caller_by script t asked reply (node_of w p).caller
        → n.caller ≡ answer_call script caller (node_of w p).caller asked.call reply
    caller-is true e k = k
    caller-is false e k = absurd (false≢true e)

    none-sent : (t : Bool) → t ≡ true → (to sender : ℕ)
        → filter (is_about caller to sender) (sent p (sends_by t asked reply) to sender) ≡ []
    none-sent true e to sender = nothing-sent caller to sender (nat_eq sender p)
    none-sent false e to sender = absurd (false≢true e)

    idle-is : (t : Bool) → t ≡ true → Idle ≡ place_by t p reply
    idle-is true e = refl
    idle-is false e = absurd (false≢true e)

    sight-over : SameCall z (call_sight w' rest moved caller)
    sight-over =
        record {
          number = read-own (λ (m : Node). m.number) r.number;
          pid = read-own (λ (m : Node). m.pid) r.pid;
          stage = read-own (λ (m : Node). m.stage) r.stage;
          caller = ap (λ k. answer_call script caller x.caller k reply) (sym call-is)
              ∙ ap (λ (m : Node). answer_call script caller m.caller asked.call reply) node-same
              ∙ sym (caller-is own mine r.caller) ∙ sym (ap (λ (m : Node). m.caller) here);
          leases = sym (ap (λ (m : Node). m.leases) here);
          place = sym place-now;
          alive = sym entry-leaves.lives.lives;
          call = idle-is own mine ∙ sym (ap (λ t. if t then place else b.call caller) (eq-eqb caller caller refl));
          frames_about = λ to sender. sym (frames-now to sender ∙ none-sent own mine to sender);
          held = λ name. sym (r.none_held name);
          hand = sym is-first.alone;
          waiters = λ name. sym (waiting-now name);
        }

    pub call-is-over : CallHolds script caller (is_born_in w') (call_sight w' rest moved caller)
    call-is-over = call-stays script caller (is_born_in w) (is_born_in w') _ _ replied-born sight-over call-over

  -- All holds of the call then.
  pub call-replied : CallHolds script caller (is_born_in w') (call_sight w' rest moved caller)
  call-replied = by own refl
    where
      by : (t : Bool) → own ≡ t → CallHolds script caller (is_born_in w') (call_sight w' rest moved caller)
      by true e = call-is-over e
      by false e = call-in-answer e

  -- ---- names, and ranges

  -- what was on its way is the same for each name
  pub steps-then : (used : Bool) (m : Name) (q : ℕ)
      → plays used calls-now m (c.left q 1) ≡ plays used b.call m (c.left q 1)
  steps-then used m q =
      steps-still script w w' hand rest owes owes' b moved p n [] sends entries caller at.low at.high holds c move used
      q (none-left q 1) m

  pub ranges-then : (used : Bool) (m : Name) (q : ℕ)
      → flat_map (range_steps_of used calls-now m) (c.left q 1) ≡ flat_map (range_steps_of used b.call m) (c.left q 1)
  ranges-then used m q =
      ranges-still script w w' hand rest owes owes' b moved p n [] sends entries caller at.low at.high holds c move used
      q (none-left q 1) m

  pub lease-then : (kind : Kind) (q : ℕ) → has_lease kind (calls-now q) ≡ has_lease kind (b.call q)
  lease-then kind q =
      elim (cases_eq caller q) [
        | inl same ↦
            ap (λ t. has_lease kind (if t then place else b.call q)) (eq-eqb caller q same)
            ∙ no-lease-place own p reply kind
            ∙ sym (subst (λ z. has_lease kind (b.call z) ≡ false) same (ap (has_lease kind) is-first.place_is))
        | inr d ↦ ap (λ t. has_lease kind (if t then place else b.call q)) (ne_eqb caller q d)
      ]

  -- All holds then, where it does for the withdrawal, the names and the numbers.
  pub replied-keeps : CancelIf caller owes' (cancel_sight w' rest moved caller)
      → ((m : Name) → NameHolds script b.pids (is_born_in w') m (name_sight script w' rest moved m))
      → ((kind : Kind) → KindHolds (is_born_in w') (kind_sight w' a.kernel kind))
      → ((kind : Kind) → FewRanges script w' calls-now kind)
      → HoldsOwing script w' rest owes' moved
  replied-keeps cancel names kinds few =
      entry-keeps script w w' hand rest owes owes' b moved p n [] sends entries caller at.low at.high holds c move
      call-replied cancel names kinds few

  -- ---- where nothing is made

  -- The directory is the same, no number is new, and deeds are where they were.
  module _ (same_directory : directory_of w' ≡ directory_of w)
      (used_is : (kind : Kind) → used_of a.kernel kind ≡ used_of b.kernel kind)
      (deed_is : (m : Name) → a.deed m ≡ b.deed m) where
    used-same : (m : Name) → is_used_name a.kernel m ≡ is_used_name b.kernel m
    used-same m = ap (λ used. is_used used (number_of m)) (used_is (kind_of m))

    -- A name whose body is the same, and which the node holds as before, keeps all that holds of it.
    pub name-not-changed : (m : Name) → body_in a.kernel m ≡ body_in b.kernel m → a.body m ≡ b.body m
        → get_named n.deeds m ≡ held_at w m p
        → NameHolds script b.pids (is_born_in w') m (name_sight script w' rest moved m)
    name-not-changed m part body held =
        name-stays script b.pids (is_born_in w) (is_born_in w') m _ _ replied-born
        (name-left-alone script p w w' n [] sends entries c hand rest b moved m
        (record {
          directory = same-directory (directory_of w) (directory_of w') same_directory m;
          used_is = used-same m;
          part_is = part;
          body_is = body;
          deed_is = deed_is m;
          held_is = held;
          begins_is = λ holds_it comes. ap (λ stage. begin stage holds_it comes) r.stage;
          hand_is = refl;
          steps_are = λ used. steps-then used m;
          ranges_are = λ used. ranges-then used m;
        }) tt (not-about own asked reply m)) (holds.names m)

    -- So does one that the node holds, with another body afterwards, which is the kernel's part.
    pub name-changed : (m : Name) → b.deed m ≡ InTable p → get_named n.deeds m ≡ Some (a.body m)
        → IsBodyOf script (body_in a.kernel m) (a.body m)
        → NameHolds script b.pids (is_born_in w') m (name_sight script w' rest moved m)
    name-changed m at_p held is =
        let old : NameHolds script b.pids (is_born_in w) m (name_sight script w hand b m) = holds.names m
        in name-stays script b.pids (is_born_in w) (is_born_in w') m _ _ replied-born
        (name-seen-rebodied script p w w' n [] sends entries c hand rest b moved m old.tables
        (record {
          directory = same-directory (directory_of w) (directory_of w') same_directory m;
          used_is = used-same m;
          deed_was = at_p;
          deed_is = deed_is m;
          held_is = held;
          begins_is = λ holds_it comes. ap (λ stage. begin stage holds_it comes) r.stage;
          hand_is = refl;
          steps_are = λ used. steps-then used m;
          ranges_are = λ used. ranges-then used m;
        }) tt (not-about own asked reply m))
        (name-rebodied script b.pids (is_born_in w) m (name_sight script w hand b m) p (body_in a.kernel m) (a.body m)
        is at_p old)

    ranges-same : (kind : Kind) → for_kind (directory_of w').ranges kind ≡ for_kind (directory_of w).ranges kind
    ranges-same kind = ap (λ (d : Directory). for_kind d.ranges kind) same_directory

    -- All holds then, where it does for the withdrawal and the names.
    pub replied-all : CancelIf caller owes' (cancel_sight w' rest moved caller)
        → ((m : Name) → NameHolds script b.pids (is_born_in w') m (name_sight script w' rest moved m))
        → HoldsOwing script w' rest owes' moved
    replied-all cancel names =
        replied-keeps cancel names
        (λ kind. kind-stays (is_born_in w) (is_born_in w') _ _ replied-born
        (kind-left-alone script p w w' n [] sends entries c b.kernel a.kernel kind
        (λ number. ap (λ used. is_used used number) (used_is kind)) (ap (λ leases. for_kind leases kind) r.leases)
        (ranges-same kind) tt (no-lease-sends own asked reply kind))
        (holds.kinds kind))
        (λ kind. few-after script w w' hand rest owes owes' b moved p n [] sends entries caller at.low at.high holds c
        move kind (ranges-same kind) (lease-then kind))
