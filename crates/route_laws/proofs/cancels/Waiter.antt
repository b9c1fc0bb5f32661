-- Whom a withdrawal takes out of those who wait at a name: the call under way of the node that it names, which waits
-- there.
use Rattle.std.proofs.Common.{◌≡◌, ℕ, ◌≤◌, Bool, true, false, ◌&&◌, ◌||◌, not, nat_eq, List, [], ◌∷◌, filter, Some, Contains, refl, ap, sym, subst, ◌∙◌, inl, inr, arith}
use Rattle.std.specs.List.{list_any}
use Rattle.std.proofs.lemmas.Bool.{and_parts, eq-eqb, eqb-true, false≢true, ne_eqb}
use Rattle.pico_base.specs.declared.call.Call.{Call}
use Rattle.pico_base.specs.declared.call.Call.TheVariants as calls
use Rattle.pico_base.specs.declared.numbers.Name.{Name}
use Rattle.pico_base.specs.declared.script.Script.{Script}
use Rattle.pico_base.specs.Home.{home_of}
use Rattle.rpc_frame.specs.declared.asked.Asked.{Asked}
use Rattle.waiter_fields.specs.Settling.{is_waiter}
use Rattle.waiting_model.specs.declared.callers.Waiting.{Waiting}
use Rattle.waiting_model.specs.Calls.{may_park, waits_at}
use Rattle.kernel_model.specs.Kernel.{living_at}
use Rattle.kernel_model.specs.Row.{Alive}
use Rattle.kernel_model.specs.Transition.{may_make}
use Rattle.kernel_laws.proofs.Members.{contains-cases, contains-first, contains-later}
use Rattle.serve_laws.proofs.Rounds.{one-apart, without}
use Rattle.serve_laws.specs.Served.{WaitAt}
use Rattle.entry_laws.proofs.Names.{same-name-is}
use Rattle.node_model.specs.Bodies.{AQueue, ASet, Body, Ended, Gone, Living, Removed, waiters_of}
use Rattle.node_model.specs.Kinds.{is_object}
use Rattle.node_model.specs.Serving.{body_without, has_waiter}
use Rattle.node_model.specs.declared.held.Held.{Held}
use Rattle.world_model.specs.Node.{Leaving, Left, Node, Over, Stage, Unborn}
use Rattle.world_model.specs.Node as stages
use Rattle.world_model.specs.World.{World, node_count}
use Rattle.world_laws.proofs.Cancels.{may_be_withdrawn}
use Rattle.world_laws.specs.Callers.{IsSoFar, IsToBeMade, call_sight, is_on, may_be_in}
use Rattle.world_laws.specs.Cancels.{Owing}
use Rattle.world_laws.specs.Families.{BornIn, HoldsIn, NodeHolds}
use Rattle.world_laws.specs.Invariant.{HoldsOwing}
use Rattle.world_laws.specs.Places.{Beside, Waits}
use Rattle.world_laws.specs.Sights.{is_born_in, node_of}
use Rattle.world_laws.specs.Wholes.{under_way_at}
use Rattle.route_laws.proofs.served.Rounds.{with_waiters}
use Rattle.route_laws.proofs.served.Waiters.{WaitsThere, pid-of-waiter, wait-at, waits-there}

-- ---- lists of those who wait

-- who is found there is one of them
pub record IsFound (ws : List Waiting) (pid ticket : ℕ) : Type 0 where
  pub who : Waiting
  pub there : Contains ws who
  pub pid_is : who.pid ≡ pid
  pub ticket_is : who.ticket ≡ ticket

pub find-waiter : (pid ticket : ℕ) (ws : List Waiting) → list_any (is_waiter pid ticket) ws ≡ true
    → IsFound ws pid ticket
find-waiter pid ticket [] h = absurd (false≢true h)
find-waiter pid ticket (w ∷ ws) h = by (is_waiter pid ticket w) refl h (λ g. find-waiter pid ticket ws g)
  where
    by : (t : Bool) → is_waiter pid ticket w ≡ t → (t || list_any (is_waiter pid ticket) ws) ≡ true
        → (list_any (is_waiter pid ticket) ws ≡ true → IsFound ws pid ticket) → IsFound (w ∷ ws) pid ticket
    by true is any later =
        let both = and_parts (nat_eq pid w.pid) (nat_eq ticket w.ticket) is
        in record {
          who = w;
          there = contains-first w ws;
          pid_is = sym (eqb-true pid w.pid both.0);
          ticket_is = sym (eqb-true ticket w.ticket both.1);
        }
    by false is any later =
        let f : IsFound ws pid ticket = later any
        in record {
          who = f.who;
          there = contains-later w ws f.who f.there;
          pid_is = f.pid_is;
          ticket_is = f.ticket_is;
        }

neither : (a c : Bool) → (a || c) ≡ false → (a ≡ false) × (c ≡ false)
neither true c h = absurd (false≢true (sym h))
neither false c h = (refl, h)

-- where no process is the one, neither test takes any out
untouched : (pid ticket : ℕ) (ws : List Waiting) → list_any (λ u. nat_eq pid u.pid) ws ≡ false
    → filter (λ u. not (is_waiter pid ticket u)) ws ≡ without pid ws
untouched pid ticket [] h = refl
untouched pid ticket (w ∷ ws) h =
    let n = neither (nat_eq pid w.pid) (list_any (λ u. nat_eq pid u.pid) ws) h
    in rw (n.0, untouched pid ticket ws n.1) refl

-- Who waits there under this ticket is the only one of its process.
pub without-same : (name : Name) (pid ticket : ℕ) (ws : List Waiting) → WaitAt name ws → (v : Waiting) → Contains ws v
    → v.pid ≡ pid → v.ticket ≡ ticket → filter (λ u. not (is_waiter pid ticket u)) ws ≡ without pid ws
without-same name pid ticket [] h v there pid_is ticket_is = refl
without-same name pid ticket (w ∷ ws) h v there pid_is ticket_is =
    elim (contains-cases w ws v there) [
      | inl is ↦
          let p : nat_eq pid w.pid ≡ true = eq-eqb pid w.pid (sym (ap (λ (u : Waiting). u.pid) is ∙ pid_is))
          in let t : nat_eq ticket w.ticket ≡ true =
          eq-eqb ticket w.ticket (sym (ap (λ (u : Waiting). u.ticket) is ∙ ticket_is))
          in let none : list_any (λ u. nat_eq pid u.pid) ws ≡ false =
          ap (λ q. list_any (λ u. nat_eq q u.pid) ws) (sym (ap (λ (u : Waiting). u.pid) is ∙ pid_is)) ∙ h.2
          in rw (p, t, untouched pid ticket ws none) refl
      | inr later ↦
          let away : nat_eq pid w.pid ≡ false =
          ne_eqb pid w.pid
          (λ e. false≢true (sym (one-apart w.pid ws v h.2 later) ∙ eq-eqb w.pid v.pid (sym e ∙ sym pid_is)))
          in rw (away, without-same name pid ticket ws h.3 v later pid_is ticket_is) refl
    ]

-- So a body without that one is the body with the others.
pub body-without : (name : Name) (pid ticket : ℕ) (body : Body) → WaitAt name (waiters_of body)
    → IsFound (waiters_of body) pid ticket
    → body_without pid ticket body ≡ with_waiters body (without pid (waiters_of body))
body-without name pid ticket (AQueue q) h f =
    ap (λ ws. AQueue (record q { waiters = ws }))
    (without-same name pid ticket q.waiters h f.who f.there f.pid_is f.ticket_is)
body-without name pid ticket (ASet s) h f =
    ap (λ ws. ASet (record s { waiters = ws }))
    (without-same name pid ticket s.waiters h f.who f.there f.pid_is f.ticket_is)
body-without name pid ticket (Living row) h f = refl
body-without name pid ticket (Ended ending) h f = refl
body-without name pid ticket Gone h f = refl
body-without name pid ticket Removed h f = refl

-- ---- in a world

-- a call that waits on a queue or a set is on the name where it waits
waits-on : (name : Name) (pid : ℕ) (call : Call) → is_object name ≡ true → may_park call ≡ true
    → is_on name (home_of pid call) ≡ true → waits_at pid call ≡ name
waits-on name pid (calls.MsgSnd id class text nowait) object parks on = sym (same-name-is name _ on)
waits-on name pid (calls.MsgRcv id class size noerror nowait) object parks on = sym (same-name-is name _ on)
waits-on name pid (calls.SemOp id steps) object parks on = sym (same-name-is name _ on)
waits-on name pid (calls.WaitPid child nohang) object parks on = absurd (false≢true on)
waits-on name pid call object parks on = absurd (false≢true parks)

-- Who is taken out, and the call under way of its node.
pub record TakesOut (script : Script) (w : World) (b : Beside) (name : Name) (it : Asked) : Type 0 where
  pub who : Waiting
  pub there : Contains (waiters_of (b.body name)) who
  pub caller_is : who.caller ≡ it.caller
  pub pid_is : who.pid ≡ it.pid
  pub ticket_is : who.ticket ≡ it.ticket
  pub own_pid : it.pid ≡ b.pids it.caller
  pub forked : (b.pids it.caller ≡ 0) → ⊥
  pub call : Call
  pub call_is : who.call ≡ call
  pub under_way : under_way_at w it.caller ≡ Some call
  pub own_ticket : it.ticket ≡ (node_of w it.caller).caller.ticket
  pub waits : b.call it.caller ≡ Waits name
  pub at : waits_at (node_of w it.caller).pid call ≡ name
  pub may : may_be_withdrawn (node_of w it.caller).pid call ≡ true
  pub alive : Alive
  pub lives : living_at b.kernel (b.pids it.caller) ≡ Some alive
  pub made_may : may_make alive call ≡ true
  pub left : body_without it.pid it.ticket (b.body name)
      ≡ with_waiters (b.body name) (without who.pid (waiters_of (b.body name)))

module _ (script : Script) (w : World) (hand : List Held) {owes : Owing} (b : Beside)
    (holds : HoldsOwing script w hand owes b) (it : Asked) (low : 1 ≤ it.caller) (high : it.caller ≤ node_count script)
    (process : it.pid ≡ (node_of w it.caller).pid) (ticket_low : 1 ≤ it.ticket)
    (ticket_high : it.ticket ≤ (node_of w it.caller).caller.ticket) (name : Name) (object : is_object name ≡ true)
    (found : has_waiter (b.body name) it.pid it.ticket ≡ true) where
  abbrev x : ℕ
  x = it.caller

  node-holds : NodeHolds script b.pids (is_born_in w) x (node_of w x)
  node-holds = holds.nodes x low high

  -- the node has started calls, so its process has its number
  own-pid : (node_of w x).pid ≡ b.pids x
  own-pid = by (node_of w x).stage refl node-holds.holds node-holds.birth
    where
      by : (stage : Stage) → (node_of w it.caller).stage ≡ stage → HoldsIn it.caller (node_of w it.caller) stage
          → BornIn script b.pids it.caller (node_of w it.caller).pid (node_of w it.caller).parent
          (node_of w it.caller).parent_node stage → (node_of w it.caller).pid ≡ b.pids it.caller
      by Unborn is none i =
          let ticket : (node_of w it.caller).caller.ticket ≡ 0 = ap (λ (n : Node). n.caller.ticket) none
          in absurd (omega (arith, ticket, ticket_low, ticket_high))
      by stages.Living is none i = i.pid_is
      by Leaving is none i = i.pid_is
      by Left is none i = i.pid_is
      by Over is none i = i.pid_is

  f : IsFound (waiters_of (b.body name)) it.pid it.ticket
  f = find-waiter it.pid it.ticket (waiters_of (b.body name)) found

  its : WaitsThere script w hand b holds name f.who
  its = waits-there script w hand b holds name f.who f.there

  its-pid : (f.who.pid ≡ b.pids f.who.caller) × ((b.pids f.who.caller ≡ 0) → ⊥)
  its-pid = pid-of-waiter script w hand b holds name f.who f.there

  same-caller : f.who.caller ≡ x
  same-caller =
      let pids = holds.pids
      in pids.apart f.who.caller x its-pid.1 (sym its-pid.0 ∙ f.pid_is ∙ process ∙ own-pid)

  own-home : (is_on name (home_of (node_of w f.who.caller).pid its.call) && may_park its.call) ≡ true
  own-home =
      subst (λ place. may_be_in place (home_of (node_of w f.who.caller).pid its.call) its.call ≡ true) its.waits
      its.has.home

  at-name : waits_at (node_of w f.who.caller).pid its.call ≡ name
  at-name =
      let parts = and_parts (is_on name (home_of (node_of w f.who.caller).pid its.call)) (may_park its.call) own-home
      in waits-on name (node_of w f.who.caller).pid its.call object parts.1 parts.0

  made : IsToBeMade script x (call_sight w hand b x) its.call
  made =
      subst (λ y. IsToBeMade script y (call_sight w hand b y) its.call) same-caller
      (subst (λ place. IsSoFar script f.who.caller (call_sight w hand b f.who.caller) its.call place) its.waits
      its.has.so_far)

  both : (a c : Bool) → a ≡ true → c ≡ true → (a && c) ≡ true
  both a c e g = rw (e, g) refl

  -- It is the call under way of its node.
  pub takes-out : TakesOut script w b name it
  takes-out =
      record {
        who = f.who;
        there = f.there;
        caller_is = same-caller;
        pid_is = f.pid_is;
        ticket_is = f.ticket_is;
        own_pid = process ∙ own-pid;
        forked = λ z. its-pid.1 (ap b.pids same-caller ∙ z);
        call = its.call;
        call_is = ap (λ (u : Waiting). u.call) its.is;
        under_way = subst (λ y. under_way_at w y ≡ Some its.call) same-caller its.under_way;
        own_ticket = sym f.ticket_is
            ∙ subst (λ y. f.who.ticket ≡ (node_of w y).caller.ticket) same-caller
            (ap (λ (u : Waiting). u.ticket) its.is);
        waits = subst (λ y. b.call y ≡ Waits name) same-caller its.waits;
        at = subst (λ y. waits_at (node_of w y).pid its.call ≡ name) same-caller at-name;
        may = subst (λ y. may_be_withdrawn (node_of w y).pid its.call ≡ true) same-caller
            (both (may_park its.call) (is_object (waits_at (node_of w f.who.caller).pid its.call))
            (and_parts (is_on name (home_of (node_of w f.who.caller).pid its.call)) (may_park its.call) own-home).1
            (ap is_object at-name ∙ object));
        alive = made.alive;
        lives = made.lives;
        made_may = made.may;
        left = body-without name it.pid it.ticket (b.body name) (wait-at script w hand b holds name) f
            ∙ ap (λ pid. with_waiters (b.body name) (without pid (waiters_of (b.body name)))) (sym f.pid_is);
      }
