-- A call in hand makes a queue or a set at the leader: the entry is made, and the reply is on its way, or the leader's
-- own process goes on.
use Rattle.std.proofs.Common.{◌≡◌, ◌≢◌, ℕ, ◌≤◌, Bool, true, false, ◌&&◌, cond, is_none, if◌then◌else◌, List, [], ◌∷◌, ◌++◌, filter, nat_eq, None, Some, refl, ap, sym, subst, ◌∙◌, inl, inr, arith}
use Rattle.std.proofs.lemmas.Bool.{cases_eq, eq-eqb, eqb-true, ne_eqb, false≢true}
use Rattle.std.specs.List.{AllByRecursion}
use Rattle.std.proofs.lemmas.List.Elements.{Contains-append_right}
use Rattle.pico_base.specs.declared.call.Call.{Call}
use Rattle.pico_base.specs.declared.numbers.Kind.{Kind}
use Rattle.pico_base.specs.declared.numbers.Name.{Name}
use Rattle.pico_base.specs.declared.numbers.Name.TheVariants.{Proc}
use Rattle.pico_base.specs.declared.reply.Entry.{Entry}
use Rattle.pico_base.specs.declared.reply.Reply.{Reply}
use Rattle.pico_base.specs.declared.reply.Reply.TheVariants as replies
use Rattle.pico_base.specs.declared.script.Script.{Script}
use Rattle.rpc_frame.specs.declared.asked.Asked.{Asked}
use Rattle.rpc_frame.specs.declared.deed.Parcel.{Parcel}
use Rattle.rpc_frame.specs.declared.frame.Frame.{Frame}
use Rattle.rpc_frame.specs.declared.frame.Frame.TheVariants as frames
use Rattle.kernel_model.specs.Effect.{reply_alone}
use Rattle.waiting_model.specs.Calls.{is_withdrawal, waits_at}
use Rattle.waiting_model.specs.Linear.{line_of}
use Rattle.number_maps.specs.Maps.{get}
use Rattle.kernel_model.specs.Kernel.{Kernel, living_at}
use Rattle.kernel_model.specs.Fitting.{Place, Places, place_after, places_after}
use Rattle.entry_laws.specs.Entering.{HasHistory, HasKeys, is_used_name}
use Rattle.entry_laws.proofs.Fresh.{MakesObject}
use Rattle.entry_laws.proofs.History.{history-goes-on, moved-is, place-moves}
use Rattle.entry_laws.proofs.Numbers.{used-others}
use Rattle.node_model.specs.declared.held.Held.{Held}
use Rattle.node_model.specs.declared.held.Held.TheVariants.{Request, Ending}
use Rattle.node_model.specs.Kinds.{for_kind, number_of}
use Rattle.node_model.specs.Bodies.{Body, waiters_of}
use Rattle.node_model.specs.Caller.{Caller, answer_call, caller_place}
use Rattle.node_model.specs.Directory.{Directory, held_for, maker, maker_in, place_name, stays}
use Rattle.node_model.specs.Entries.{entry_by}
use Rattle.world_model.specs.Node.{Leader, Left, Node, Stage, Unborn}
use Rattle.world_model.specs.World.{World, node_count}
use Rattle.world_laws.specs.Places.{Beside, CallPlace, DeedPlace, InTable, NoCancel, body_put, call_in, deed_in}
use Rattle.world_laws.specs.Sights.{directory_of, frames_to, is_born_in, is_born_stage, node_of, stage_of}
use Rattle.world_laws.specs.Names.{forker}
use Rattle.world_laws.specs.Callers.{CallHolds, CallSight, asked_of, call_sight, is_about, is_item_about, is_waiter_of, only_if}
use Rattle.world_laws.specs.Wholes.{HasWhole}
use Rattle.route_laws.proofs.Entered.{whole-of}
use Rattle.world_laws.specs.Cancels.{CancelIf, LeadsNowhere, Owing, cancel_sight, is_cancel_of, is_held_cancel_of, is_held_of_call, is_of_call, owing_of}
use Rattle.world_laws.specs.Names.{NameHolds, name_sight}
use Rattle.world_laws.specs.Wholes.{WholeIf}
use Rattle.world_laws.specs.Ways.{IsParcelIn, at_hand, knows_parent, under_way_of, way_sight, left as left_in, sent as sent_in, kept as kept_in}
use Rattle.world_laws.specs.Ranges.{has_lease}
use Rattle.world_laws.specs.Families.{FamilyHolds, IsAwaited, NodeHolds, checkpoints_to}
use Rattle.world_laws.specs.Invariant.{FramesFit, HoldsOwing, process_deed}
use Rattle.world_laws.proofs.Changes.{Changes, filter-is-list-map, made-after, made-same, sent, stayed, still-born}
use Rattle.world_laws.proofs.Frames.{IsSameBut, plays-of-others, ranges-of-all-others}
use Rattle.world_laws.proofs.LeftAlone.{LeavesCall, call-left-alone, family-left-alone, frames-still-fit, other-node-stays, parcel-was-there, sender-stays, way-left-alone}
use Rattle.world_laws.proofs.Stays.{IsMore, SameCall, call-stays, node-born, way-stays}
use Rattle.rule_laws.proofs.CallMoves.{SameButCall, call-items-same}
use Rattle.rule_laws.proofs.Nowhere.{nowhere-made, nowhere-unused, still-unknown}
use Rattle.world_laws.proofs.Cancels.{SameCancel, cancel-left-alone, is_item_of, may_be_withdrawn}
use Rattle.rule_laws.proofs.Nodes.{leader-stage, object-is-no-process}
use Rattle.rule_laws.proofs.own.Entries.{EntryLeaves, others-go-on, pids-after}
use Rattle.rule_laws.proofs.own.Objects.{process-apart, processes-stay-leaves}
use Rattle.rule_laws.proofs.own.Others.{call-goes-on, family-after}
use Rattle.route_laws.proofs.hand.Answering.{IsPlainCall, answered_at, caller-born, caller-forked, due-in-hand, has-history, may-make-in-hand, pid-in-hand, place-in-hand}
use Rattle.route_laws.proofs.hand.HandMoves.{IsCallOf, IsFirst, first, held-for-none, in-no-stream, waits-nowhere}
use Rattle.route_laws.proofs.served.CallThen.{over_at, process-goes-on, reply-on-its-way}
use Rattle.route_laws.proofs.served.OneReply.{after_one, old-here, one-cancel, one-whole, others-owed}
use Rattle.route_laws.proofs.served.Replies.{IsAtWork, Then, beside_then, caller_by, may-be-sends, no-birth-sends, no-cancel-sends, no-lease-sends, not-about, no-lease-place, nothing-sent, of-no-other, place_by, plain-sends, sends_by, sent-answer, to-others}
use Rattle.route_laws.proofs.served.Whole.{WholeStep}
use Rattle.route_laws.proofs.keys.MadeHere.{MakesOf, Tables, directory-now, made_node, node-now}
use Rattle.route_laws.proofs.keys.MadeNames.{LeavesFrames, made-names}
use Rattle.route_laws.proofs.keys.MadeNumbers.{made-few, made-kinds}
use Rattle.route_laws.proofs.keys.NewPlaces.{knows-but-call}
use Rattle.route_laws.proofs.keys.OtherLeases.{other-leases}
use Rattle.world_laws.proofs.Named.{name-cases}
use Rattle.world_laws.proofs.NameFacts.{has_left}

module _ (script : Script) (w : World) (asked : Asked) (rest : List Held) (strikes : Bool) (b : Beside)
    (holds : HoldsOwing script w (Request asked ∷ rest) (owing_of 1 strikes) b) (at : IsAtWork script w 1)
    (asks : IsCallOf script asked) (kind : Kind) (name : Name) (body : Body)
    (m : MakesOf w b asked.pid asked.call kind name body) (keys : Tables)
    (has_keys : HasKeys keys.queues keys.sets m.made.next) (plain : IsPlainCall asked.call)
    (step : WholeStep b.whole asked.pid asked.call (reply_alone (replies.Num (number_of name))) m.made.next
    (body_put b.body name body)) (same_waiters : (y : Name) → waiters_of (body_put b.body name body y)
    ≡ waiters_of (b.body y)) (node : ℕ) (w' : World)
    (c : Changes script 1 w w'
    (made_node (node_of w 1) kind m.takes.numbers m.takes.directory name body
    (caller_by script (nat_eq asked.caller 1) asked (replies.Num (number_of name)) (node_of w 1).caller) keys) []
    (sends_by (nat_eq asked.caller 1) asked (replies.Num (number_of name)))
    (entry_by node asked.pid asked.call (replies.Num (number_of name)) ∷ [])) where
  abbrev hand : List Held
  hand = Request asked ∷ rest

  abbrev owes : Owing
  owes = owing_of 1 strikes

  abbrev p : ℕ
  p = asked.caller

  abbrev own : Bool
  own = nat_eq p 1

  abbrev n : Node
  n = node_of w 1

  abbrev d : Directory
  d = directory_of w

  abbrev k : Kernel
  k = b.kernel

  abbrev reply : Reply
  reply = replies.Num (number_of name)

  abbrev was : Place
  was = caller_place script p (node_of w p).caller

  abbrev made : MakesObject k asked.pid asked.call name body
  made = m.made

  abbrev after : Node
  after =
      made_node n kind m.takes.numbers m.takes.directory name body (caller_by script own asked reply n.caller) keys

  abbrev entry : Entry
  entry = entry_by node asked.pid asked.call reply

  abbrev sends : List (ℕ × Frame)
  sends = sends_by own asked reply

  abbrev places-now : Places
  places-now = places_after script b.places entry was

  abbrev calls-now : ℕ → CallPlace
  calls-now = call_in b.call p (place_by own 1 reply)

  abbrev whole-was : HasWhole w b
  whole-was = whole-of 1 strikes w b holds.whole

  abbrev then_is : Then
  then_is =
      after_one script w asked rest 1 strikes b holds whole-was asks node reply made.next
      (deed_in b.deed name (InTable 1))
      (body_put b.body name body) step

  -- What stands beside the world then.
  abbrev pub moved : Beside
  moved = beside_then b calls-now then_is

  -- ---- the entry

  no-process : (q : ℕ) → Proc q ≢ name
  no-process q = process-apart name q m.object

  by-pid : EntryLeaves k b.places asked.pid made.next places-now
  by-pid =
      processes-stay-leaves k asked.pid asked.call reply made.next
      (may-make-in-hand script w asked rest b holds asks) made.enters.makes made.caller
      (λ q. used-others k asked.pid asked.call reply name made.next made.enters (Proc q) (no-process q))
      (λ q. made.rest (Proc q) (no-process q)) plain.no_fork plain.no_exit plain.not_killed script b.places node p
      (node_of w p).caller (place-in-hand script w asked rest b holds asks)
      (due-in-hand script w asked rest b holds asks)

  pid-is : asked.pid ≡ b.pids p
  pid-is = pid-in-hand script w asked rest b holds asks

  leaves : EntryLeaves k b.places (b.pids p) made.next places-now
  leaves = subst (λ q. EntryLeaves k b.places q made.next places-now) pid-is by-pid

  forked : b.pids p ≢ 0
  forked = caller-forked script w asked rest b holds asks

  other-process : (y : ℕ) → y ≢ p → b.pids y ≢ b.pids p
  other-process y away e = away (sym (holds.pids.apart p y forked (sym e)))

  history-now : HasHistory script (b.lines ++ line_of node asked.pid asked.call reply ∷ []) made.next places-now
  history-now =
      history-goes-on script b.lines k b.places node asked.pid asked.call reply was made.next
      (has-history script w asked rest b holds asks) (place-in-hand script w asked rest b holds asks)
      (due-in-hand script w asked rest b holds asks) made.enters.makes

  whole-now : WholeIf owes w' moved
  whole-now =
      one-whole script w asked rest 1 strikes b holds whole-was asks node reply made.next
      (deed_in b.deed name (InTable 1))
      (body_put b.body name body) step own refl after sends w' c refl by-pid history-now refl holds.whole

  -- ---- the nodes and the directory

  more : IsMore (is_born_in w) (is_born_in w')
  more = still-born script 1 w w' after [] sends (entry ∷ []) c (λ born. born)

  same-but-call : SameButCall p d (directory_of w')
  same-but-call =
      subst (λ (y : Directory). SameButCall p d y) (sym (ap (λ (y : Node). y.leader.directory) c.here))
      (knows-but-call p d (place_name m.takes.directory name 1) name
      (directory-now script w hand b holds at.high asked.pid asked.call kind name body m))

  nodes-now : (y : ℕ) → 1 ≤ y → y ≤ node_count script → NodeHolds script b.pids (is_born_in w') y (node_of w' y)
  nodes-now y low_y high_y =
      elim (cases_eq y 1) [
        | inr away ↦
            other-node-stays script 1 w w' after [] sends (entry ∷ []) c b.pids (is_born_in w) (is_born_in w') y away
            more (holds.nodes y low_y high_y)
        | inl e ↦
            subst (λ z. NodeHolds script b.pids (is_born_in w') z (node_of w' z)) (sym e)
            (subst (λ (z : Node). NodeHolds script b.pids (is_born_in w') 1 z) (sym c.here)
            (node-born script b.pids (is_born_in w) (is_born_in w') 1 after more
            (node-now script w hand b holds at.high asked.pid asked.call kind name body m
            (caller_by script own asked reply n.caller) keys)))
      ]

  frames-now : FramesFit script (is_born_in w') (frames_to w')
  frames-now =
      frames-still-fit script 1 w w' after [] sends (entry ∷ []) c more holds.frames_fit
      (may-be-sends script w' own asked reply 1 (more 1 at.born)) (to-others own asked reply 1 refl)

  held-is : (z : Name) → held_for (directory_of w') z ≡ held_for d z
  held-is z =
      let now = directory-now script w hand b holds at.high asked.pid asked.call kind name body m
      in ap (λ (e : Node). held_for e.leader.directory z) c.here ∙ now.held_is z

  -- ---- the call

  abbrev is-first : IsFirst script p (is_born_in w) (call_sight w hand b p) asked (filter (is_item_about p) rest)
  is-first = first script w asked rest b holds asks

  call-is : asked.call ≡ is-first.call
  call-is = ap (λ (a : Asked). a.call) is-first.asked_is

  left-alone : (to sender : ℕ) → filter (is_about p to sender) (c.left to sender) ≡ []
  left-alone to sender =
      stayed script 1 w w' after [] sends (entry ∷ []) c (λ t s fs. filter (is_about p t s) fs)
      (λ t s. filter-is-list-map (is_about p t s)) tt to sender
      ∙ in-no-stream script w asked rest b holds asks to sender

  frames-then : (to sender : ℕ) → filter (is_about p to sender) (frames_to w' to sender)
      ≡ filter (is_about p to sender) (sent 1 sends to sender)
  frames-then to sender =
      made-after script 1 w w' after [] sends (entry ∷ []) c (λ t s fs. filter (is_about p t s) fs)
      (λ t s. filter-is-list-map (is_about p t s)) to sender
      ∙ ap (λ fs. fs ++ filter (is_about p to sender) (sent 1 sends to sender)) (left-alone to sender)

  place-then : get places-now (b.pids p) ≡ Some (place_after was is-first.call (Some reply))
  place-then =
      ap (get places-now) (sym pid-is)
      ∙ place-moves script b.places node asked.pid asked.call reply was plain.no_fork
      ∙ ap Some (moved-is was asked.call (Some reply) plain.not_killed)
      ∙ ap (λ z. Some (place_after was z (Some reply))) call-is

  held-none : (z : Name) → filter (is_item_about p) (held_for (directory_of w') z) ≡ []
  held-none z = ap (filter (is_item_about p)) (held-is z) ∙ held-for-none script w asked rest b holds asks z

  waits-none : (z : Name) → filter (is_waiter_of p) (waiters_of (body_put b.body name body z)) ≡ []
  waits-none z = ap (filter (is_waiter_of p)) (same_waiters z) ∙ waits-nowhere script w asked rest b holds asks z

  call-here : calls-now p ≡ place_by own 1 reply
  call-here = ap (λ t. if t then place_by own 1 reply else b.call p) (eq-eqb p p refl)

  place-is : (t : Bool) → own ≡ t → place_by own 1 reply ≡ place_by t 1 reply
  place-is t e = ap (λ u. place_by u 1 reply) e

  -- the reply is on its way to another node
  module _ (mine_not : own ≡ false) where
    other : p ≢ 1
    other e = false≢true (sym mine_not ∙ eq-eqb p 1 e)

    read : {A : Type 0} (f : Node → A) → f (node_of w p) ≡ f (node_of w' p)
    read f = sym (ap f (c.others p other))

    abbrev y : CallSight
    y =
        answered_at (call_sight w hand b p) p 1 reply (place_after was is-first.call (Some reply))
        leaves.lives.alive (asked_of (call_sight w hand b p) is-first.call)

    answer-sent : (t : Bool) → t ≡ false → (to sender : ℕ)
        → filter (is_about p to sender) (sent 1 (sends_by t asked reply) to sender)
        ≡ only_if (nat_eq to p && nat_eq sender 1) (frames.Answer asked.ticket reply)
    answer-sent true e to sender = absurd (false≢true (sym e))
    answer-sent false e to sender = sent-answer p to sender asked.ticket reply (nat_eq to p) (nat_eq sender 1) refl

    sight-then : SameCall y (call_sight w' rest moved p)
    sight-then =
        record {
          number = read (λ (z : Node). z.number);
          pid = read (λ (z : Node). z.pid);
          stage = read (λ (z : Node). z.stage);
          caller = read (λ (z : Node). z.caller);
          leases = read (λ (z : Node). z.leases);
          place = sym place-then;
          alive = sym leaves.lives.lives;
          call = sym (call-here ∙ place-is false mine_not);
          frames_about = λ to sender. ap (λ (a : Asked). only_if (nat_eq to p && nat_eq sender 1)
              (frames.Answer a.ticket reply)) (sym is-first.asked_is)
              ∙ sym (frames-then to sender ∙ answer-sent own mine_not to sender);
          held = λ z. sym (held-none z);
          hand = sym is-first.alone;
          waiters = λ z. sym (waits-none z);
        }

    other-answered : CallHolds script p (is_born_in w') (call_sight w' rest moved p)
    other-answered =
        call-stays script p (is_born_in w) (is_born_in w') y (call_sight w' rest moved p) more sight-then
        (reply-on-its-way script w asked rest b holds asks reply leaves.lives.alive 1 at.born other)

  -- the leader's own process goes on
  module _ (mine : own ≡ true) where
    is-one : p ≡ 1
    is-one = eqb-true p 1 mine

    abbrev z : CallSight
    z = over_at script w asked rest b holds asks reply leaves.lives.alive after.leases

    here : node_of w' p ≡ after
    here = ap (node_of w') is-one ∙ c.here

    read-own : {A : Type 0} (f : Node → A) → f after ≡ f n → f (node_of w p) ≡ f (node_of w' p)
    read-own f same = ap (λ q. f (node_of w q)) is-one ∙ sym same ∙ sym (ap f here)

    caller-is : (t : Bool) → t ≡ true
        → caller_by script t asked reply n.caller ≡ answer_call script p (node_of w p).caller asked.call reply
    caller-is true e = ap (λ q. (let u : Node = node_of w q in answer_call script p u.caller asked.call reply))
        (sym is-one)
    caller-is false e = absurd (false≢true e)

    none-sent : (t : Bool) → t ≡ true → (to sender : ℕ)
        → filter (is_about p to sender) (sent 1 (sends_by t asked reply) to sender) ≡ []
    none-sent true e to sender = nothing-sent p to sender (nat_eq sender 1)
    none-sent false e to sender = absurd (false≢true e)

    sight-over : SameCall z (call_sight w' rest moved p)
    sight-over =
        record {
          number = read-own (λ (u : Node). u.number) refl;
          pid = read-own (λ (u : Node). u.pid) refl;
          stage = read-own (λ (u : Node). u.stage) refl;
          caller = ap (λ call. answer_call script p (node_of w p).caller call reply) (sym call-is)
              ∙ sym (caller-is own mine) ∙ sym (ap (λ (u : Node). u.caller) here);
          leases = sym (ap (λ (u : Node). u.leases) here);
          place = sym place-then;
          alive = sym leaves.lives.lives;
          call = sym (call-here ∙ place-is true mine);
          frames_about = λ to sender. sym (frames-then to sender ∙ none-sent own mine to sender);
          held = λ q. sym (held-none q);
          hand = sym is-first.alone;
          waiters = λ q. sym (waits-none q);
        }

    own-over : CallHolds script p (is_born_in w') (call_sight w' rest moved p)
    own-over =
        call-stays script p (is_born_in w) (is_born_in w') z (call_sight w' rest moved p) more sight-over
        (process-goes-on script w asked rest b holds asks reply leaves.lives.alive after.leases)

  call-now : CallHolds script p (is_born_in w') (call_sight w' rest moved p)
  call-now = by own refl
    where
      by : (t : Bool) → own ≡ t → CallHolds script p (is_born_in w') (call_sight w' rest moved p)
      by true e = own-over e
      by false e = other-answered e

  -- ---- calls of others

  -- before, with the next kernel
  abbrev between : Beside
  between = record b { kernel = made.next }

  goes-on : (q : ℕ) → 1 ≤ q → q ≤ node_count script → q ≢ p
      → CallHolds script q (is_born_in w) (call_sight w hand between q)
  goes-on q low_q high_q away =
      call-goes-on script q (is_born_in w) (call_sight w hand b q) (living_at made.next (b.pids q))
      (others-go-on k made.next b.places places-now (b.pids p) leaves (b.pids q) (other-process q away))
      (holds.calls q low_q high_q)

  items-of-others : (q : ℕ) → q ≢ p → filter (is_item_of q) rest ≡ filter (is_item_of q) hand
  items-of-others q away =
      sym (ap (λ t. cond t (Request asked ∷ filter (is_item_of q) rest) (filter (is_item_of q) rest))
      (ne_eqb p q (λ e. away (sym e))))

  hand-of-others : (q : ℕ) → q ≢ p → filter (is_item_about q) rest ≡ filter (is_item_about q) hand
  hand-of-others q away = call-items-same q rest hand (items-of-others q away)

  call-of-others : (q : ℕ) → q ≢ p → calls-now q ≡ b.call q
  call-of-others q away = ap (λ t. if t then place_by own 1 reply else b.call q) (ne_eqb p q (λ e. away (sym e)))

  call-elsewhere : (q : ℕ) → q ≢ p → q ≢ 1 → LeavesCall w w' hand rest between moved 1 after q
  call-elsewhere q away not_first =
      record {
        own = λ e. absurd (not_first e);
        place_is = leaves.places_stay (b.pids q) (other-process q away);
        alive_is = refl;
        call_is = call-of-others q away;
        held_is = λ z. ap (filter (is_item_about q)) (held-is z);
        hand_is = hand-of-others q away;
        waiters_are = λ z. ap (filter (is_waiter_of q)) (same_waiters z);
      }

  -- the leader's own caller is as it was, where the call is another's
  first-caller : 1 ≢ p → after.caller ≡ n.caller
  first-caller away = by own refl
    where
      by : (t : Bool) → own ≡ t → caller_by script t asked reply n.caller ≡ n.caller
      by true e = absurd (away (sym (eqb-true p 1 e)))
      by false e = refl

  none-of : (q : ℕ) → q ≢ p → AllByRecursion (λ s. is_about q s.0 1 s.1 ≡ false) sends
  none-of q away = of-no-other own asked reply 1 q away

  first-seen : 1 ≢ p
      → SameCall (record (call_sight w hand between 1) { leases = after.leases }) (call_sight w' rest moved 1)
  first-seen away =
      record {
        number = sym (ap (λ (u : Node). u.number) c.here);
        pid = sym (ap (λ (u : Node). u.pid) c.here);
        stage = sym (ap (λ (u : Node). u.stage) c.here);
        caller = sym (ap (λ (u : Node). u.caller) c.here ∙ first-caller away);
        leases = sym (ap (λ (u : Node). u.leases) c.here);
        place = sym (leaves.places_stay (b.pids 1) (other-process 1 away));
        alive = refl;
        call = sym (call-of-others 1 away);
        frames_about = λ to sender. sym (made-same script 1 w w' after [] sends (entry ∷ []) c
            (λ t s fs. filter (is_about 1 t s) fs) (λ t s. filter-is-list-map (is_about 1 t s)) tt
            (none-about own refl) to sender);
        held = λ q. sym (ap (filter (is_item_about 1)) (held-is q));
        hand = sym (hand-of-others 1 away);
        waiters = λ q. sym (ap (filter (is_waiter_of 1)) (same_waiters q));
      }
    where
      none-about : (t : Bool) → own ≡ t
          → AllByRecursion (λ s. filter (is_about 1 s.0 1) (s.1 ∷ []) ≡ []) (sends_by t asked reply)
      none-about true e = tt
      none-about false e = (
        ap (λ t. cond t (frames.Answer asked.ticket reply ∷ []) []) (ne_eqb p 1 (λ same. away (sym same))),
        tt,
      )

  calls-hold : (q : ℕ) → 1 ≤ q → q ≤ node_count script → CallHolds script q (is_born_in w') (call_sight w' rest moved q)
  calls-hold q low_q high_q =
      elim (cases_eq q p) [
        | inl e ↦ subst (λ r. CallHolds script r (is_born_in w') (call_sight w' rest moved r)) (sym e) call-now
        | inr away ↦
            elim (cases_eq q 1) [
              | inl e ↦
                  subst (λ r. CallHolds script r (is_born_in w') (call_sight w' rest moved r)) (sym e)
                  (call-stays script 1 (is_born_in w) (is_born_in w') _ _ more (first-seen (λ g. away (e ∙ g)))
                  (other-leases script (is_born_in w) (call_sight w hand between 1) after.leases
                  (goes-on 1 (omega arith) at.high (λ g. away (e ∙ g)))))
              | inr not_first ↦
                  call-stays script q (is_born_in w) (is_born_in w') _ _ more
                  (call-left-alone script 1 w w' after [] sends (entry ∷ []) c hand rest between moved q
                  (call-elsewhere q away not_first) tt (none-of q away))
                  (goes-on q low_q high_q away)
            ]
      ]

  -- ---- names

  same-calls : IsSameBut p b.call calls-now
  same-calls q away = call-of-others q away

  leaves-frames : LeavesFrames hand rest b calls-now c.left
  leaves-frames =
      record {
        hand_is = λ q. refl;
        steps_are = λ used q h.
            plays-of-others used b.call calls-now p same-calls q h 1 (c.left h 1) (left-alone h 1);
        ranges_are = λ used q h.
            ranges-of-all-others used b.call calls-now p same-calls q h 1 (c.left h 1) (left-alone h 1);
      }

  names-now : (q : Name) → NameHolds script b.pids (is_born_in w') q (name_sight script w' rest moved q)
  names-now =
      made-names script w w' hand rest b holds at.high asked.pid asked.call kind name body m
      (caller_by script own asked reply n.caller) keys places-now calls-now sends (entry ∷ []) c more leaves-frames
      (λ q. not-about own asked reply q)

  -- ---- withdrawals

  -- who has made the name is the leader, which stays
  makers-stay : (q : Name) (h : ℕ) → is_used_name k q ≡ false → is_used_name made.next q ≡ true → maker d q ≡ Some h
      → stays d h ≡ true
  makers-stay q h unused used has =
      elim (name-cases q name) [
        | inr away ↦
            absurd
            (false≢true (sym unused
            ∙ sym (used-others k asked.pid asked.call reply name made.next made.enters q away) ∙ used))
        | inl e ↦ elim (m.takes.makers name) [
          | inl same ↦
              ap (stays d) (number-same h 1 (sym has ∙ ap (maker d) e ∙ sym same ∙ made-there)) ∙ holds.leading.stays
          | inr given ↦ absurd (none-is-some h (sym (given.was) ∙ sym (ap (maker d) e) ∙ has))
        ]
      ]
    where
      number-same : (a c : ℕ) → Some a ≡ Some c → a ≡ c
      number-same a c e = cc

      none-is-some : (a : ℕ) → None ≡ Some a → ⊥
      none-is-some a e = cc

      made-there : maker m.takes.directory name ≡ Some 1
      made-there =
          ap (λ y. maker_in (for_kind m.takes.directory.ranges y) (number_of name)) m.kind_is
          ∙ ap (maker_in (for_kind m.takes.directory.ranges kind)) m.number_is ∙ m.takes.made_here

  nowhere-still : (q : ℕ) → 1 ≤ q → q ≤ node_count script → q ≢ p → (call : Call)
      → (node_of w q).caller.under_way ≡ Some call → may_be_withdrawn (node_of w q).pid call ≡ true
      → LeadsNowhere (cancel_sight w hand b q) (waits_at (node_of w q).pid call)
      → LeadsNowhere (cancel_sight w' rest moved q) (waits_at (node_of w q).pid call)
  nowhere-still q low_q high_q away call is may l =
      record {
        node = l.node;
        is = call-of-others q away ∙ l.is;
        leaves = ap is_none (same-but-call.partings_are l.node) ∙ l.leaves;
        unknown = still-unknown script b.pids (is_born_in w') w' rest moved (waits_at (node_of w q).pid call)
            (names-now (waits_at (node_of w q).pid call)) (not-made (is_used_name made.next _) refl);
      }
    where
      not-made : (used : Bool) → is_used_name made.next (waits_at (node_of w q).pid call) ≡ used
          → is_used_name made.next (waits_at (node_of w q).pid call) ≡ false
      not-made false e = e
      not-made true e =
          absurd
          (false≢true (sym l.leaves
          ∙ makers-stay (waits_at (node_of w q).pid call) l.node
          (nowhere-unused script w hand owes b holds q low_q high_q call is may l) e
          (nowhere-made script w hand owes b holds q low_q high_q call is may l)))

  -- the leader's own, where the call is another's
  module _ (away : 1 ≢ p) where
    not-mine : nat_eq p 1 ≡ false
    not-mine = ne_eqb p 1 (λ e. away (sym e))

    ticket-same : (node_of w' 1).caller.ticket ≡ n.caller.ticket
    ticket-same =
        ap (λ (u : Node). u.caller.ticket) c.here ∙ ap (λ (u : Caller). u.ticket) (first-caller away)

    -- none of the frames is about it
    none-passes : (test : ℕ → ℕ → Frame → Bool) → test p 1 (frames.Answer asked.ticket reply) ≡ false
        → AllByRecursion (λ s. filter (test s.0 1) (s.1 ∷ []) ≡ []) sends
    none-passes test h = by own
      where
        by : (u : Bool) → AllByRecursion (λ s. filter (test s.0 1) (s.1 ∷ []) ≡ []) (sends_by u asked reply)
        by true = tt
        by false = (ap (λ u. cond u (frames.Answer asked.ticket reply ∷ []) []) h, tt)

    -- nor is the call in hand
    hand-same : (test : Held → Bool) → test (Request asked) ≡ false → filter test rest ≡ filter test hand
    hand-same test h = sym (ap (λ u. cond u (Request asked ∷ filter test rest) (filter test rest)) h)

    first-cancel : SameCancel (cancel_sight w hand b 1) (cancel_sight w' rest moved 1)
    first-cancel =
        record {
          number = sym (ap (λ (u : Node). u.number) c.here);
          pid = sym (ap (λ (u : Node). u.pid) c.here);
          caller = sym (ap (λ (u : Node). u.caller) c.here ∙ first-caller away);
          call = sym (call-of-others 1 away);
          cancel = sym (ap (λ u. if u then NoCancel else b.cancel 1) not-mine);
          cancels = λ to sender. sym (made-same script 1 w w' after [] sends (entry ∷ []) c
              (λ t s fs. filter (is_cancel_of 1) fs) (λ t s. filter-is-list-map (is_cancel_of 1)) tt
              (none-passes (λ t s. is_cancel_of 1) refl) to sender);
          held_cancels = λ z. sym (ap (filter (is_held_cancel_of 1)) (held-is z));
          hand_cancels = sym (hand-same (is_held_cancel_of 1) (ap (λ u. u && is_withdrawal asked.call) not-mine));
          of_call = λ to sender.
              sym (ap (λ u. filter (is_of_call 1 u to sender) (frames_to w' to sender)) ticket-same
              ∙ made-same script 1 w w' after [] sends (entry ∷ []) c
              (λ t s fs. filter (is_of_call 1 n.caller.ticket t s) fs)
              (λ t s. filter-is-list-map (is_of_call 1 n.caller.ticket t s)) tt
              (none-passes (is_of_call 1 n.caller.ticket) not-mine) to sender);
          held_of_call = λ z.
              sym (ap (λ u. filter (is_held_of_call 1 u) (held_for (directory_of w') z)) ticket-same
              ∙ ap (filter (is_held_of_call 1 n.caller.ticket)) (held-is z));
          hand_of_call = sym (ap (λ u. filter (is_held_of_call 1 u) rest) ticket-same
              ∙ hand-same (is_held_of_call 1 n.caller.ticket)
              (ap (λ u. u && nat_eq asked.ticket n.caller.ticket) not-mine));
          nowhere = nowhere-still 1 (omega arith) at.high away;
        }

  cancel-seen : (q : ℕ) → 1 ≤ q → q ≤ node_count script → q ≢ p
      → SameCancel (cancel_sight w hand b q) (cancel_sight w' rest moved q)
  cancel-seen q low_q high_q away =
      elim (cases_eq q 1) [
        | inr not_first ↦
            cancel-left-alone script 1 w w' after [] sends (entry ∷ []) c hand rest b moved q
            (record {
              own = λ e. absurd (not_first e);
              call_is = call-of-others q away;
              cancel_is = ap (λ t. if t then NoCancel else b.cancel q) (ne_eqb p q (λ e. away (sym e)));
              held_is = λ z. ap (filter (is_item_of q)) (held-is z);
              hand_is = items-of-others q away;
              nowhere = nowhere-still q low_q high_q away;
            }) tt (none-of q away) tt (no-cancel-sends own asked reply q)
        | inl e ↦
            subst (λ r. SameCancel (cancel_sight w hand b r) (cancel_sight w' rest moved r)) (sym e)
            (first-cancel (λ g. away (e ∙ g)))
      ]

  cancels-now : (q : ℕ) → 1 ≤ q → q ≤ node_count script → CancelIf q owes (cancel_sight w' rest moved q)
  cancels-now q low_q high_q =
      elim (cases_eq q p) [
        | inl e ↦
            subst (λ r. CancelIf r owes (cancel_sight w' rest moved r)) (sym e)
            (one-cancel script w asked rest 1 strikes b holds whole-was asks node reply made.next
            (deed_in b.deed name (InTable 1))
            (body_put b.body name body) step own refl after sends w' c refl by-pid history-now refl
            (cancel_sight w hand b p)
            (old-here script w asked rest 1 strikes b holds whole-was asks node reply made.next
            (deed_in b.deed name (InTable 1)) (body_put b.body name body) step own refl after sends w' c refl by-pid
            history-now refl refl (λ z. ap (filter (is_held_cancel_of p)) (held-is z)))
            (holds.cancels p asks.low asks.high))
        | inr away ↦
            others-owed script w asked rest 1 strikes b holds whole-was asks node reply made.next
            (deed_in b.deed name (InTable 1))
            (body_put b.body name body) step own refl after sends w' c refl by-pid history-now refl
            (λ r. made.rest (Proc r) (no-process r)) q away (cancel_sight w hand b q) refl
            (cancel-seen q low_q high_q away)
            (holds.cancels q low_q high_q)
      ]

  -- ---- the rest

  lease-same : (y : Kind) (q : ℕ) → has_lease y (calls-now q) ≡ has_lease y (b.call q)
  lease-same y q =
      elim (cases_eq p q) [
        | inl e ↦
            ap (λ t. has_lease y (if t then place_by own 1 reply else b.call q)) (eq-eqb p q e)
            ∙ no-lease-place own 1 reply y
            ∙ sym (subst (λ r. has_lease y (b.call r) ≡ false) e (ap (has_lease y) is-first.place_is))
        | inr away ↦ ap (λ t. has_lease y (if t then place_by own 1 reply else b.call q)) (ne_eqb p q away)
      ]

  was-in : (parcel : Parcel) → IsParcelIn w' rest parcel → IsParcelIn w' hand parcel
  was-in parcel (left_in q there) = left_in q there
  was-in parcel (sent_in q there) = sent_in q there
  was-in parcel (kept_in q there) = kept_in q there
  was-in parcel (at_hand there) = at_hand (Contains-append_right (Request asked ∷ []) rest (Ending parcel) there)

  deeds-same : (q : ℕ) → deed_in b.deed name (InTable 1) (Proc q) ≡ b.deed (Proc q)
  deeds-same q = ap (λ t. if t then InTable 1 else b.deed (Proc q)) (object-is-no-process name q m.object)

  unborn-not : (stage : Stage) → is_born_stage stage ≡ true → stage ≡ Unborn → ⊥
  unborn-not stage born e = false≢true (sym (ap is_born_stage e) ∙ born)

  families-now : (q : ℕ) → b.pids q ≢ 0
      → FamilyHolds script b.pids places-now made.next (process_deed (deed_in b.deed name (InTable 1)))
      (checkpoints_to script w' q) (stage_of w' q) q
  families-now q forked_q =
      let old : FamilyHolds script b.pids b.places k (process_deed b.deed) (checkpoints_to script w q) (stage_of w q)
      q = holds.families q forked_q
      in family-left-alone script 1 w w' after [] sends (entry ∷ []) c b.pids places-now made.next
      (process_deed b.deed) (process_deed (deed_in b.deed name (InTable 1))) q deeds-same (λ e. refl) tt
      (no-birth-sends own asked reply)
      (family-after script b.pids k made.next b.places places-now (b.pids p) leaves (process_deed b.deed)
      (checkpoints_to script w q) (stage_of w q) q
      (λ to e. (
        made.rest (Proc (b.pids q)) (no-process (b.pids q)),
        λ same. unborn-not (stage_of w p) (caller-born script w asked rest b holds asks)
            (ap (stage_of w) (holds.pids.apart p q forked (sym same))
            ∙ subst (λ (g : DeedPlace). IsAwaited (stage_of w q) g) e old.awaited),
      )) old)

  left-same : after.stage ≡ Left → after.caller.under_way ≡ under_way_of w 1
  left-same left = absurd (false≢true (sym (leader-stage script b.pids (is_born_in w) 1 n refl
      (holds.nodes 1 (omega arith) at.high)).1 ∙ ap has_left left))

  -- What was made is at the leader, which knows it, and the call has its reply.
  pub made-keeps : HoldsOwing script w' rest owes moved
  made-keeps =
      record {
        shape = c.shape;
        history = history-now;
        whole = whole-now;
        leading = same-but-call.leads;
        pids = pids-after k made.next b.places places-now (b.pids p) leaves script b.pids holds.pids;
        nodes = nodes-now;
        frames_fit = frames-now;
        names = names-now;
        calls = calls-hold;
        cancels = cancels-now;
        ways = λ q low_q high_q. way-stays script b.pids q (knows_parent script w b.pids q)
            (knows_parent script w' b.pids q) (way_sight w q) (way_sight w' q)
            (same-but-call.known_still (Proc (b.pids (forker script q))))
            (way-left-alone script 1 w w' after [] sends (entry ∷ []) c q (λ e. refl) (same-but-call.partings_are q) tt
            (plain-sends own asked reply)) (holds.ways q low_q high_q);
        parcels = λ parcel there. sender-stays script 1 w w' after [] sends (entry ∷ []) c b.pids parcel
            (λ left. (left, left-same left))
            (holds.parcels parcel
            (parcel-was-there script 1 w w' after [] sends (entry ∷ []) c hand parcel (plain-sends own asked reply)
            (λ q. same-but-call.parcels_were q parcel) (was-in parcel there)));
        kinds = made-kinds script w w' hand b holds at.high asked.pid asked.call kind name body m
            (caller_by script own asked reply n.caller) keys calls-now sends entry c more
            (λ q. no-lease-sends own asked reply q);
        few = λ q. made-few script w w' hand b holds at.high asked.pid asked.call kind name body m
            (caller_by script own asked reply n.caller) keys calls-now sends entry c more
            (λ r. no-lease-sends own asked reply r) q (lease-same q);
        keys = subst (λ (l : Leader). HasKeys l.queue_keys l.set_keys made.next)
            (sym (ap (λ (u : Node). u.leader) c.here)) has_keys;
        families = families-now;
      }
