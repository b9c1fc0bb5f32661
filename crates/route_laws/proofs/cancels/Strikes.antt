-- The strike, which comes last: a signal that has struck the node's process interrupts the call under way, and nothing
-- is owed any more.
use Rattle.std.proofs.Common.{◌≡◌, ◌≢◌, inl, inr, ℕ, ◌≤◌, Bool, true, false, ◌&&◌, if◌then◌else◌, [], ◌∷◌, Option, Some, None, refl, ap, sym, subst, ◌∙◌, append-nil, arith}
use Rattle.std.specs.Option.{option_and_then}
use Rattle.std.proofs.lemmas.Bool.{and_parts, cases_eq, eq-eqb, false≢true, ne_eqb}
use Rattle.pico_base.specs.declared.call.Call.{Call}
use Rattle.pico_base.specs.declared.call.Call.TheVariants as calls
use Rattle.pico_base.specs.declared.numbers.Name.{Name}
use Rattle.pico_base.specs.declared.numbers.Name.TheVariants.{Msg, Proc, Sem}
use Rattle.pico_base.specs.declared.reply.Errno.TheVariants.{Eintr}
use Rattle.pico_base.specs.declared.reply.Reply.{Reply}
use Rattle.pico_base.specs.declared.reply.Reply.TheVariants as replies
use Rattle.pico_base.specs.declared.script.Script.{Script}
use Rattle.pico_base.specs.Home.{home_of}
use Rattle.rpc_frame.specs.declared.asked.Asked.{Asked}
use Rattle.rpc_frame.specs.declared.frame.Frame.TheVariants as frames
use Rattle.waiting_model.specs.Calls.{may_park, waits_at, withdrawn_from}
use Rattle.node_model.specs.declared.held.Held.TheVariants.{Request}
use Rattle.node_model.specs.Bodies.{Body}
use Rattle.node_model.specs.Carrying.{is_own_home}
use Rattle.node_model.specs.Caller.{Caller, answer_call, if_it_waits, note_cancel, to_cancel}
use Rattle.node_model.specs.Kinds.{get_named, is_object}
use Rattle.node_model.specs.Serving.{Leaves, NotThere, body_without, has_waiter, withdraw, withdraw_in}
use Rattle.world_model.specs.Node.{Node, under_way_as}
use Rattle.world_model.specs.Routes.{cancel, route_cancel}
use Rattle.world_model.specs.Serving.{interrupted}
use Rattle.world_model.specs.Step.{Step, carry_out, enter, reply_here, send, with_node}
use Rattle.world_model.specs.Strikes.{strike, strike_at, strike_call, strike_object, tell_leader}
use Rattle.world_model.specs.World.{World, node_count, world_after}
use Rattle.world_laws.specs.Places.{Beside, CallPlace, Parked}
use Rattle.world_laws.specs.Sights.{directory_of, is_born_in, is_born_stage, node_of}
use Rattle.world_laws.specs.Callers.{CallHolds, HasCall, HasCallOrNone, call_sight, may_be_in}
use Rattle.world_laws.specs.Cancels.{AStrike, CancelHolds, CancelSight, MayBeInterrupted, Nothing, OfCall, cancel_sight, has_reply, owing_of}
use Rattle.world_laws.specs.Families.{NodeHolds}
use Rattle.world_laws.specs.Invariant.{Holds, HoldsOwing}
use Rattle.world_laws.specs.Names.{NameHolds, name_sight}
use Rattle.world_laws.specs.Wholes.{under_way_at}
use Rattle.world_laws.proofs.Cancels.{SameCancel, may_be_withdrawn}
use Rattle.world_laws.proofs.Changes.{Changes, read-same}
use Rattle.world_laws.proofs.Middles.{changes-further}
use Rattle.world_laws.proofs.NameFacts.{IsHeldAt, held-there}
use Rattle.rule_laws.proofs.ends.Directories.{KnowsNodes}
use Rattle.rule_laws.proofs.own.Moved.{AreStill, is_still}
use Rattle.route_laws.proofs.Entered.{caught-up, forget-owed}
use Rattle.route_laws.proofs.Owed.{HoldsAt}
use Rattle.route_laws.proofs.cancels.BrokenWhole.{IsBroken, IsCleared, WaitEnds, broken-off, cleared}
use Rattle.route_laws.proofs.cancels.Interrupted.{waiter-broken}
use Rattle.route_laws.proofs.cancels.Interrupts.{noted_node}
use Rattle.route_laws.proofs.cancels.Routed.{CancelRouted, cancel-routed-owing}
use Rattle.route_laws.proofs.cancels.Struck.{IsStruckCall}
use Rattle.route_laws.proofs.cancels.StruckCleared.{struck-cleared}
use Rattle.route_laws.proofs.cancels.BrokenParked.{parked-birth}
use Rattle.route_laws.proofs.cancels.StruckParked.{over_at_once, parked-broken}
use Rattle.route_laws.proofs.cancels.Told.{first-told, leader-told}
use Rattle.route_laws.proofs.cancels.Travels.{HoldsStill, owed-another}
use Rattle.route_laws.proofs.exits.Parents.{own-waits-parked}
use Rattle.route_laws.proofs.served.Replies.{IsAtWork}
use Rattle.route_laws.proofs.served.Turns.{node-at}

-- What is owed behind this step is given: all holds, and each call is where it was, or has its reply.
pub record StrikeKeeps (script : Script) (v : World) (p : ℕ) (s : Step) (b : Beside) : Type 0 where
  pub beside : Beside
  pub holds : Holds script (world_after v p (strike script s)) [] beside
  pub calls : AreStill b.call beside.call

-- ---- where no call is interrupted

seen-itself : (x : CancelSight) → SameCancel x x
seen-itself x =
    record {
      number = refl;
      pid = refl;
      caller = refl;
      call = refl;
      cancel = refl;
      cancels = λ to sender. refl;
      held_cancels = λ name. refl;
      hand_cancels = refl;
      of_call = λ to sender. refl;
      held_of_call = λ name. refl;
      hand_of_call = refl;
      nowhere = λ call is may l. l;
    }

-- no call is to be interrupted: a signal was noted before, or the call doesn't wait
data NotInterrupted (c : Caller) : Type 0 where
  noted_before : c.noted ≡ true → NotInterrupted c
  none_waits : ((call : Call) → c.under_way ≡ Some call → may_park call ≡ false) → NotInterrupted c

some-none : {A : Type 0} (a : A) → Some a ≡ None → ⊥
some-none a h = cc

some-same : {A : Type 0} {a c : A} → Some a ≡ Some c → a ≡ c
some-same h = cc

not-interrupted : (c : Caller) → to_cancel c ≡ None → NotInterrupted c
not-interrupted c none = by c.noted refl none
  where
    waits-not : (call : Call) (t : Bool) → may_park call ≡ t → (if t then Some call else None) ≡ None
        → may_park call ≡ false
    waits-not call false is h = is
    waits-not call true is h = absurd (some-none call h)

    by : (t : Bool) → c.noted ≡ t → (if t then None else option_and_then if_it_waits c.under_way) ≡ None
        → NotInterrupted c
    by true is h = noted_before is
    by false is h =
        none_waits (λ call under_way. waits-not call (may_park call) refl
        (ap (option_and_then if_it_waits) (sym under_way) ∙ h))

-- so nothing that is owed is left to show of it
owes-nothing : (p : ℕ) (x : CancelSight) → NotInterrupted x.caller
    → ((call : Call) → x.caller.under_way ≡ Some call → x.call ≡ Parked → may_park call ≡ true)
    → CancelHolds p (AStrike p) x → CancelHolds p Nothing x
owes-nothing p x none parks h =
    record {
      of_call = by x.call x.caller.under_way refl refl
          (subst (λ t. OfCall p t x x.call x.caller.under_way) (eq-eqb p p refl) h.of_call);
      frames = h.frames;
      held = h.held;
      hand = h.hand;
      owed = λ owed some. absurd (false≢true owed);
    }
  where
    noted-or : (call : Call) → x.caller.under_way ≡ Some call → may_park call ≡ true → x.caller.noted ≡ true
    noted-or call is waits = by none
      where
        by : NotInterrupted x.caller → x.caller.noted ≡ true
        by (noted_before noted) = noted
        by (none_waits not) = absurd (false≢true (sym (not call is) ∙ waits))

    of-call : (call : Call) → x.caller.under_way ≡ Some call → (t replied : Bool) → may_be_withdrawn x.pid call ≡ t
        → MayBeInterrupted p true x call (waits_at x.pid call) t replied
        → MayBeInterrupted p false x call (waits_at x.pid call) t replied
    of-call call is true false waits m =
        record {
          follows = m.follows;
          pair = m.pair;
          noted = m.noted;
          struck = m.struck;
          nowhere = m.nowhere;
          interrupted = λ owed doomed. noted-or call is
              ((and_parts (may_park call) (is_object (waits_at x.pid call)) waits).0);
        }
    of-call call is true true waits m = m
    of-call call is false replied waits m = m

    by : (place : CallPlace) (o : Option Call) → x.call ≡ place → x.caller.under_way ≡ o → OfCall p true x place o
        → OfCall p false x place o
    by place None at is m = m
    by Parked (Some call) at is m =
        absurd (false≢true (sym m.1.unnoted ∙ noted-or call is (parks call is at)))
    by place (Some call) at is m = of-call call is (may_be_withdrawn x.pid call) (has_reply place) refl m

module _ (script : Script) (w : World) (b : Beside) (p : ℕ) (low : 1 ≤ p) (high : p ≤ node_count script)
    (holds : HoldsOwing script w [] (AStrike p) b) (none : to_cancel (node_of w p).caller ≡ None) where
  parks : (call : Call) → (node_of w p).caller.under_way ≡ Some call → b.call p ≡ Parked → may_park call ≡ true
  parks call is parked =
      let h : CallHolds script p (is_born_in w) (call_sight w [] b p) = holds.calls p low high
      in let has : HasCall script p (is_born_in w) (call_sight w [] b p) call =
      subst (λ (o : Option Call). HasCallOrNone script p (is_born_in w) (call_sight w [] b p) o) is h.call
      in (and_parts (is_own_home (home_of (node_of w p).pid call)) (may_park call)
      (subst (λ place. may_be_in place (home_of (node_of w p).pid call) call ≡ true) parked has.home)).1

  -- The signal interrupts no call.
  nothing-interrupted : HoldsOwing script w [] Nothing b
  nothing-interrupted =
      caught-up script w [] Nothing b (forget-owed script w [] (AStrike p) b holds) holds.whole
      (λ y low_y high_y. elim (cases_eq y p) [
        | inl e ↦
            subst (λ q. CancelHolds q Nothing (cancel_sight w [] b q)) (sym e)
            (owes-nothing p (cancel_sight w [] b p) (not-interrupted (node_of w p).caller none) parks
            (holds.cancels p low high))
        | inr d ↦
            owed-another p y (cancel_sight w [] b y) (cancel_sight w [] b y) d refl
            (seen-itself (cancel_sight w [] b y)) (holds.cancels y low_y high_y)
      ])

-- ---- where one is

-- what is known of it
record IsInterrupted (c : Caller) (call : Call) : Type 0 where
  unnoted : c.noted ≡ false
  under_way : c.under_way ≡ Some call
  parks : may_park call ≡ true

is-interrupted : (c : Caller) (call : Call) → to_cancel c ≡ Some call → IsInterrupted c call
is-interrupted c call some = by c.noted refl some
  where
    none-some : {A : Type 0} (a : A) → None ≡ Some a → ⊥
    none-some a h = cc

    waits : (other : Call) (t : Bool) → may_park other ≡ t → (if t then Some other else None) ≡ Some call
        → (other ≡ call) × (may_park other ≡ true)
    waits other true is h = (some-same h, is)
    waits other false is h = absurd (none-some call h)

    by-call : c.noted ≡ false → (o : Option Call) → c.under_way ≡ o → option_and_then if_it_waits o ≡ Some call
        → IsInterrupted c call
    by-call unnoted None is h = absurd (none-some call h)
    by-call unnoted (Some other) is h =
        let its = waits other (may_park other) refl h
        in record {
          unnoted = unnoted;
          under_way = is ∙ ap Some its.0;
          parks = sym (ap may_park its.0) ∙ its.1;
        }

    by : (t : Bool) → c.noted ≡ t → (if t then None else option_and_then if_it_waits c.under_way) ≡ Some call
        → IsInterrupted c call
    by true is h = absurd (none-some call h)
    by false is h = by-call is c.under_way refl h

-- the withdrawal of this node's call
abbrev withdrawn_by : Node → Call → Asked
withdrawn_by m call =
    record {
      caller = m.number;
      ticket = m.caller.ticket;
      pid = m.pid;
      call = calls.Withdraw (waits_at m.pid call);
    }

-- the step with the note
abbrev noted_step : Step → Step
noted_step s = with_node s (record s.node { caller = note_cancel s.node.caller })

module _ (script : Script) (v : World) (p : ℕ) (s : Step) (b : Beside)
    (holds : HoldsOwing script (world_after v p s) [] (AStrike p) b) (at : IsAtWork script (world_after v p s) p)
    (call : Call) (its : IsInterrupted s.node.caller call) where
  abbrev w : World
  w = world_after v p s

  abbrev noted : Step
  noted = noted_step s

  abbrev w1 : World
  w1 = world_after v p noted

  abbrev asked : Asked
  asked = withdrawn_by noted.node call

  node-is : node_of w p ≡ s.node
  node-is = node-at script v p s holds.shape at.low at.high

  number-is : s.node.number ≡ p
  number-is =
      let n : NodeHolds script b.pids (is_born_in w) p (node_of w p) = holds.nodes p at.low at.high
      in sym (ap (λ (m : Node). m.number) node-is) ∙ n.number

  under-way : under_way_at w p ≡ Some call
  under-way = ap (λ (m : Node). m.caller.under_way) node-is ∙ its.under_way

  noted-changes : Changes script p w w1 (noted_node (node_of w p)) [] [] []
  noted-changes =
      subst (λ (m : Node). Changes script p w w1 (noted_node m) [] [] []) (sym node-is)
      (changes-further script v p s noted [] [] holds.shape at.low at.high tt
      (record { sends_are = sym (append-nil s.sends); entries_are = sym (append-nil s.entries) }))

  has : HasCall script p (is_born_in w) (call_sight w [] b p) call
  has =
      let h : CallHolds script p (is_born_in w) (call_sight w [] b p) = holds.calls p at.low at.high
      in subst (λ (o : Option Call). HasCallOrNone script p (is_born_in w) (call_sight w [] b p) o) under-way h.call

  -- of a call on a queue or a set
  struck-call : is_object (waits_at s.node.pid call) ≡ true
      → IsStruckCall p (cancel_sight w [] b p) call (waits_at (node_of w p).pid call)
  struck-call object =
      record {
        number_is = ap (λ (m : Node). m.number) node-is ∙ number-is;
        under_way = under-way;
        waits = both (may_park call) (is_object (waits_at (node_of w p).pid call)) its.parks
            (ap (λ (m : Node). is_object (waits_at m.pid call)) node-is ∙ object);
        name_is = refl;
        unnoted = ap (λ (m : Node). m.caller.noted) node-is ∙ its.unnoted;
        ticket = has.started;
      }
    where
      both : (a c : Bool) → a ≡ true → c ≡ true → (a && c) ≡ true
      both a c e g = rw (e, g) refl

  -- after this step of the strike all holds
  abbrev Struck : Step → Type 0
  Struck t = WaitEnds script v p t [] false b

  k : IsCleared script w [] true w1 p [] false b p
  k = struck-cleared script w w1 b p at.low at.high holds call under-way noted-changes

  node-noted-is : node_of w1 p ≡ noted.node
  node-noted-is = node-at script v p noted k.holds.shape at.low at.high

  -- ---- a child is waited for

  module _ (which : Option ℕ) (is : call ≡ calls.WaitPid which false) (parked : b.call p ≡ Parked) where
    abbrev reply : Reply
    reply = replies.Fail Eintr

    under-way-noted : under_way_at w1 p ≡ Some (calls.WaitPid which false)
    under-way-noted = ap (λ (m : Node). m.caller.under_way) node-noted-is ∙ its.under_way ∙ ap Some is

    abbrev over : Step
    over =
        over_at_once script v p noted (cleared b p) k.holds at.low at.high which under-way-noted parked asked.call

    broken : IsBroken script w1 (world_after v p over) [] (cleared b p) p p asked.call (Proc (b.pids p))
    broken =
        parked-broken script v p noted (cleared b p) k.holds at.low at.high which under-way-noted parked asked.call

    own-pid : s.node.pid ≡ b.pids p
    own-pid =
        let i = parked-birth script w1 [] (cleared b p) k.holds p at.low at.high which under-way-noted parked
        in ap (λ (m : Node). m.pid) (sym node-noted-is) ∙ i.pid_is

    abbrev entered : Step
    entered = enter noted s.node.pid asked.call reply

    step-is : carry_out script noted asked reply ≡ over
    step-is =
        ap (λ t. if t then reply_here script entered reply (under_way_as entered.node s.node.caller.ticket)
        else send entered s.node.number (frames.Answer s.node.caller.ticket reply))
        (eq-eqb s.node.number s.node.number refl)
        ∙ ap (λ t. reply_here script entered reply (elim t [ true ↦ s.node.caller.under_way | false ↦ None ]))
        (eq-eqb s.node.caller.ticket s.node.caller.ticket refl)
        ∙ ap (reply_here script entered reply) (its.under_way ∙ ap Some is)
        ∙ ap (λ q. with_node entered (record noted.node {
          caller = answer_call script q noted.node.caller (calls.WaitPid which false) reply;
        })) number-is

    withdraws : withdrawn_from asked.call ≡ Some (Proc (b.pids p))
    withdraws = ap (λ z. Some (waits_at s.node.pid z)) is ∙ ap (λ q. Some (Proc q)) own-pid

    -- It is over at once.
    child-struck : Struck (carry_out script noted asked reply)
    child-struck =
        subst Struck (sym step-is)
        (broken-off script w [] true v p noted over [] false b p asked.call (Proc (b.pids p)) k broken at.low at.high
        withdraws)

  -- ---- the deed is here, and the call waits there

  at-noted : IsAtWork script w1 p
  at-noted =
      record {
        low = at.low;
        high = at.high;
        born = ap (λ (m : Node). is_born_stage m.stage) (node-noted-is ∙ sym (ap noted_node node-is)) ∙ at.born;
      }

  module _ (name : Name) (at_name : waits_at s.node.pid call ≡ name) (object : is_object name ≡ true) (body : Body)
      (held : get_named s.node.deeds name ≡ Some body)
      (found : has_waiter body s.node.pid s.node.caller.ticket ≡ true) where
    its-deed : IsHeldAt (b.deed name) (b.body name) p body
    its-deed =
        let known : NameHolds script b.pids (is_born_in w) name (name_sight script w [] b name) = holds.names name
        in held-there (b.deed name) (b.body name) p body
        (sym (known.tables p) ∙ ap (λ (m : Node). get_named m.deeds name) node-is ∙ held)

    -- the withdrawal, of node p
    abbrev it : Asked
    it = record asked { caller = p }

    found-there : has_waiter (b.body name) s.node.pid s.node.caller.ticket ≡ true
    found-there = ap (λ z. has_waiter z s.node.pid s.node.caller.ticket) (sym its-deed.body_is) ∙ found

    taken : IsBroken script w1
        (world_after v p (interrupted script noted name it
        (body_without s.node.pid s.node.caller.ticket (b.body name))))
        [] (cleared b p) p p asked.call name
    taken =
        waiter-broken script v p noted it [] (cleared b p) k.holds at-noted name at.low at.high
        (ap (λ (m : Node). m.pid) (sym node-noted-is)) started
        (let same = ap (λ (m : Node). m.caller.ticket) node-noted-is in omega (arith, same)) object its-deed.deed_is
        found-there
      where
        started : 1 ≤ s.node.caller.ticket
        started =
            let one = has.started
            in let same = ap (λ (m : Node). m.caller.ticket) node-is
            in omega (arith, one, same)

    -- It is taken out.
    waiter-struck : Struck (interrupted script noted name asked
        (body_without s.node.pid s.node.caller.ticket body))
    waiter-struck =
        subst (λ z. Struck (interrupted script noted name asked (body_without s.node.pid s.node.caller.ticket z)))
        (sym its-deed.body_is)
        (subst (λ q. Struck (interrupted script noted name (record asked { caller = q })
        (body_without s.node.pid s.node.caller.ticket (b.body name)))) (sym number-is)
        (broken-off script w [] true v p noted
        (interrupted script noted name it (body_without s.node.pid s.node.caller.ticket (b.body name))) [] false b p
        asked.call name k taken at.low at.high (ap Some at_name)))

  -- ---- all together

  own-home : may_be_in (b.call p) (home_of (node_of w p).pid call) call ≡ true
  own-home = has.home

  module _ (tells : is_object (waits_at s.node.pid call) ≡ true
      → WaitEnds script v p (tell_leader script noted (waits_at s.node.pid call) asked) [] false b) where
    at-object : (name : Name) → waits_at s.node.pid call ≡ name → is_object name ≡ true
        → Struck (strike_object script noted name asked (withdraw s.node.deeds name s.node.pid s.node.caller.ticket))
    at-object name at_name object = by-body (get_named s.node.deeds name) refl
      where
        told : Struck (tell_leader script noted name asked)
        told =
            subst (λ m. Struck (tell_leader script noted m asked)) at_name
            (tells (ap is_object at_name ∙ object))

        by-body : (o : Option Body) → get_named s.node.deeds name ≡ o
            → Struck (strike_object script noted name asked (withdraw_in s.node.pid s.node.caller.ticket o))
        by-body None held = told
        by-body (Some body) held = by (has_waiter body s.node.pid s.node.caller.ticket) refl
          where
            by : (t : Bool) → has_waiter body s.node.pid s.node.caller.ticket ≡ t
                → Struck (strike_object script noted name asked
                (if t then Leaves (body_without s.node.pid s.node.caller.ticket body) else NotThere))
            by true found = waiter-struck name at_name object body held found
            by false none = told

    own-wait : (z : Call) → call ≡ z → may_park z ≡ true → (q : ℕ) → waits_at s.node.pid z ≡ Proc q
        → Struck (carry_out script noted asked (replies.Fail Eintr))
    own-wait (calls.WaitPid which nohang) is parks q at_name =
        let both = own-waits-parked (b.call p) (node_of w p).pid which nohang
        (subst (λ z. may_be_in (b.call p) (home_of (node_of w p).pid z) z ≡ true) is own-home)
        in child-struck which (is ∙ ap (calls.WaitPid which) both.1) both.0
    own-wait (calls.MsgSnd id class text nowait) is parks q at_name = absurd (cc)
    own-wait (calls.MsgRcv id class size noerror nowait) is parks q at_name = absurd (cc)
    own-wait (calls.SemOp id steps) is parks q at_name = absurd (cc)
    own-wait z is parks q at_name = absurd (false≢true parks)

    by-name : (name : Name) → waits_at s.node.pid call ≡ name → Struck (strike_at script noted asked name)
    by-name (Proc q) at_name = own-wait call refl its.parks q at_name
    by-name (Msg id) at_name = at-object (Msg id) at_name refl
    by-name (Sem id) at_name = at-object (Sem id) at_name refl

    -- The call is interrupted, or its withdrawal is on its way.
    call-struck : WaitEnds script v p (strike_call script s (Some call)) [] false b
    call-struck = by-name (waits_at s.node.pid call) refl

-- ---- who is told

-- by another node than the leader
tells-leader : (script : Script) (v : World) (p : ℕ) (s : Step) (b : Beside)
    (holds : HoldsOwing script (world_after v p s) [] (AStrike p) b) → IsAtWork script (world_after v p s) p
    → (call : Call) → IsInterrupted s.node.caller call → p ≢ 1
    → is_object (waits_at s.node.pid call) ≡ true
    → WaitEnds script v p (tell_leader script (noted_step s) (waits_at s.node.pid call)
    (withdrawn_by (noted_step s).node call)) [] false b
tells-leader script v p s b holds at call its other object =
    subst (λ t. WaitEnds script v p (if t
    then route_cancel script (noted_step s) (waits_at s.node.pid call) (withdrawn_by s.node call)
    else cancel (noted_step s) 1 (withdrawn_by s.node call)) [] false b)
    (sym (ne_eqb s.node.number 1 (λ e. other (sym number ∙ e))))
    (record {
      beside = record b { cancel = told.cancels };
      holds = told.holds;
      calls = λ y. is_still refl;
    })
  where
    there : node_of (world_after v p s) p ≡ s.node
    there = node-is script v p s b holds at call its

    number : s.node.number ≡ p
    number = number-is script v p s b holds at call its

    sent : Changes script p (world_after v p s) (world_after v p (cancel (noted_step s) 1 (withdrawn_by s.node call)))
        (noted_node (node_of (world_after v p s) p)) []
        ((1, frames.Cancel (withdrawn_by (node_of (world_after v p s) p) call)) ∷ []) []
    sent =
        subst (λ (m : Node). Changes script p (world_after v p s)
        (world_after v p (cancel (noted_step s) 1 (withdrawn_by s.node call))) (noted_node m) []
        ((1, frames.Cancel (withdrawn_by m call)) ∷ []) []) (sym there)
        (changes-further script v p s (cancel (noted_step s) 1 (withdrawn_by s.node call))
        ((1, frames.Cancel (withdrawn_by s.node call)) ∷ []) [] holds.shape at.low at.high
        (let low = at.low in let high = at.high in record { low = omega arith; high = omega (arith, low, high) }, tt)
        (record { sends_are = refl; entries_are = sym (append-nil s.entries) }))

    told : HoldsStill script (world_after v p (cancel (noted_step s) 1 (withdrawn_by s.node call))) [] Nothing b
    told =
        leader-told script (world_after v p s)
        (world_after v p (cancel (noted_step s) 1 (withdrawn_by s.node call))) [] b p at.low at.high holds call _
        (struck-call script v p s b holds at call its object) other sent

-- the leader has it in its hand, and routes it
first-routes : (script : Script) (v : World) (s : Step) (b : Beside)
    (holds : HoldsOwing script (world_after v 1 s) [] (AStrike 1) b) → IsAtWork script (world_after v 1 s) 1
    → KnowsNodes (directory_of (world_after v 1 s)) → (call : Call) → IsInterrupted s.node.caller call
    → is_object (waits_at s.node.pid call) ≡ true
    → WaitEnds script v 1 (tell_leader script (noted_step s) (waits_at s.node.pid call)
    (withdrawn_by (noted_step s).node call)) [] false b
first-routes script v s b holds at at_nodes call its object =
    subst (λ t. WaitEnds script v 1 (if t
    then route_cancel script (noted_step s) (waits_at s.node.pid call) (withdrawn_by s.node call)
    else cancel (noted_step s) 1 (withdrawn_by s.node call)) [] false b) (sym (eq-eqb s.node.number 1 number))
    (subst (λ (m : Node). WaitEnds script v 1
    (route_cancel script (noted_step s) (waits_at m.pid call) (withdrawn_by m call)) [] false b) there
    (record { beside = routed.beside; holds = routed.holds; calls = routed.calls }))
  where
    there : node_of (world_after v 1 s) 1 ≡ s.node
    there = node-is script v 1 s b holds at call its

    number : s.node.number ≡ 1
    number = number-is script v 1 s b holds at call its

    changes : Changes script 1 (world_after v 1 s) (world_after v 1 (noted_step s))
        (noted_node (node_of (world_after v 1 s) 1)) [] [] []
    changes = noted-changes script v 1 s b holds at call its

    told : HoldsStill script (world_after v 1 (noted_step s))
        (Request (withdrawn_by (node_of (world_after v 1 s) 1) call) ∷ []) Nothing b
    told =
        first-told script (world_after v 1 s) (world_after v 1 (noted_step s)) b at.high holds call _
        (struck-call script v 1 s b holds at call its object) changes

    caller-is : (let m : Node = node_of (world_after v 1 s) 1 in m.number) ≡ 1
    caller-is = ap (λ (m : Node). m.number) there ∙ number

    nodes-then : KnowsNodes (directory_of (world_after v 1 (noted_step s)))
    nodes-then =
        subst KnowsNodes
        (sym (read-same script 1 (world_after v 1 s) (world_after v 1 (noted_step s)) _ [] [] [] changes
        (λ (m : Node). m.leader.directory) refl 1)) at_nodes

    routed : CancelRouted script v
        (route_cancel script (noted_step s) (waits_at (node_of (world_after v 1 s) 1).pid call)
        (withdrawn_by (node_of (world_after v 1 s) 1) call)) [] Nothing (record b { cancel = told.cancels })
    routed =
        cancel-routed-owing script v (noted_step s) (withdrawn_by (node_of (world_after v 1 s) 1) call) [] false
        (record b { cancel = told.cancels }) told.holds nodes-then (omega (arith, caller-is))
        (let high = at.high in omega (arith, caller-is, high)) (waits_at (node_of (world_after v 1 s) 1).pid call) refl

-- ---- the strike

-- A signal strikes the process of this node.
strikes-call : (script : Script) (v : World) (p : ℕ) (s : Step) (b : Beside)
    → HoldsOwing script (world_after v p s) [] (AStrike p) b → IsAtWork script (world_after v p s) p
    → (p ≡ 1 → KnowsNodes (directory_of (world_after v p s))) → (call : Call) → IsInterrupted s.node.caller call
    → WaitEnds script v p (strike_call script s (Some call)) [] false b
strikes-call script v p s b holds at at_nodes call its =
    elim (cases_eq p 1) [
      | inr other ↦ call-struck script v p s b holds at call its (tells-leader script v p s b holds at call its other)
      | inl first ↦
          subst (λ q. HoldsOwing script (world_after v q s) [] (AStrike q) b → IsAtWork script (world_after v q s) q
          → KnowsNodes (directory_of (world_after v q s))
          → WaitEnds script v q (strike_call script s (Some call)) [] false b) (sym first)
          (λ held there nodes. call-struck script v 1 s b held there call its
          (first-routes script v s b held there nodes call its)) holds at (at_nodes first)
    ]

-- Behind each step the strike gives what that owes, if it owes one.
pub strike-keeps : (script : Script) (v : World) (p : ℕ) (s : Step) (b : Beside) → HoldsAt script v p s [] b
    → IsAtWork script (world_after v p s) p → (p ≡ 1 → KnowsNodes (directory_of (world_after v p s)))
    → StrikeKeeps script v p s b
strike-keeps script v p s b holds at at_nodes = by s.strikes refl holds
  where
    kept : (t : Step) → strike script s ≡ t → WaitEnds script v p t [] false b → StrikeKeeps script v p s b
    kept t is e =
        record {
          beside = e.beside;
          holds = subst (λ z. Holds script (world_after v p z) [] e.beside) (sym is) e.holds;
          calls = e.calls;
        }

    by-call : HoldsOwing script (world_after v p s) [] (AStrike p) b → strike script s
        ≡ strike_call script s (to_cancel s.node.caller) → (o : Option Call) → to_cancel s.node.caller ≡ o
        → StrikeKeeps script v p s b
    by-call owing is None none =
        kept s (is ∙ ap (strike_call script s) none)
        (record {
          beside = b;
          holds = nothing-interrupted script (world_after v p s) b p at.low at.high owing
              (ap (λ (m : Node). to_cancel m.caller) (node-at script v p s owing.shape at.low at.high) ∙ none);
          calls = λ y. is_still refl;
        })
    by-call owing is (Some call) some =
        kept (strike_call script s (Some call)) (is ∙ ap (strike_call script s) some)
        (strikes-call script v p s b owing at at_nodes call (is-interrupted s.node.caller call some))

    by : (t : Bool) → s.strikes ≡ t → HoldsOwing script (world_after v p s) [] (owing_of p t) b
        → StrikeKeeps script v p s b
    by false none h =
        kept s (ap (λ t. if t then strike_call script s (to_cancel s.node.caller) else s) none)
        (record { beside = b; holds = h; calls = λ y. is_still refl })
    by true some h =
        by-call h (ap (λ t. if t then strike_call script s (to_cancel s.node.caller) else s) some)
        (to_cancel s.node.caller) refl
