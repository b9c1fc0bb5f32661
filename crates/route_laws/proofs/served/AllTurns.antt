-- In the middle of a node's event those who are woken are in its hand: they are carried out in their order, and have
-- their replies.
use Rattle.std.proofs.Common.{◌≡◌, ◌≢◌, ℕ, Bool, true, false, not, if◌then◌else◌, List, [], ◌∷◌, ◌++◌, map, nat_eq, Some, None, refl, ap, sym, subst, ◌∙◌, append-nil, append_assoc, ◌||◌, int_le, pos, ◌&&◌}
use Rattle.std.specs.List.{AllByRecursion, list_any}
use Rattle.std.proofs.lemmas.Bool.{false≢true, or_parts, eqb-true}
use Rattle.pico_base.specs.declared.call.Call.{Call}
use Rattle.pico_base.specs.declared.call.Call.TheVariants as calls
use Rattle.pico_base.specs.declared.call.Home.{Home}
use Rattle.pico_base.specs.declared.call.Home.TheVariants as homes
use Rattle.pico_base.specs.declared.call.SemStep.{SemStep}
use Rattle.pico_base.specs.declared.numbers.Name.{Name}
use Rattle.pico_base.specs.declared.reply.Entry.{Entry}
use Rattle.pico_base.specs.declared.reply.Reply.{Reply}
use Rattle.pico_base.specs.declared.script.Script.{Script}
use Rattle.pico_base.specs.Home.{home_of}
use Rattle.kernel_model.specs.Waiting.{may_wait}
use Rattle.waiting_model.specs.Calls.{may_park}
use Rattle.waiting_model.specs.Linear.{at_once, line_of, step_at_once}
use Rattle.waiting_model.specs.declared.callers.Waiting.{Waiting}
use Rattle.node_model.specs.declared.held.Held.{Held}
use Rattle.node_model.specs.declared.held.Held.TheVariants.{Request}
use Rattle.node_model.specs.Bodies.{Body, Deeds, waiters_of, bare}
use Rattle.node_model.specs.Carrying.{is_own, is_own_home, is_served}
use Rattle.node_model.specs.Kinds.{put_named}
use Rattle.node_model.specs.Serving.{name_for}
use Rattle.world_model.specs.Node.{Leader}
use Rattle.world_model.specs.Step.{Step}
use Rattle.world_model.specs.World.{World, world_after}
use Rattle.entry_laws.specs.Entering.{removed_queue, removed_set}
use Rattle.entry_laws.proofs.Names.{get-put-other-name, get-put-same-name, other-name, same-name}
use Rattle.world_laws.specs.Places.{CallPlace, InTable, Beside, call_in}
use Rattle.world_laws.specs.Callers.{is_on}
use Rattle.world_laws.specs.Cancels.{Wakes}
use Rattle.world_laws.specs.Invariant.{HoldsOwing}
use Rattle.rule_laws.proofs.own.Moved.{IsCarriedOut, is_answered, is_over}
use Rattle.route_laws.proofs.hand.HandMoves.{IsCallOf}
use Rattle.route_laws.proofs.served.Nodes.{PutsBody}
use Rattle.route_laws.proofs.served.Replies.{IsAtWork, place_by}
use Rattle.route_laws.proofs.served.Rounds.{Answered, InTurn}
use Rattle.route_laws.proofs.served.Steps.{answer_all, answer_one, with_tables}
use Rattle.route_laws.proofs.served.Turns.{keys-same, turn-at, turn-keeps, turn_beside, turn-dead}
use Rattle.route_laws.proofs.served.Waiters.{name-of-on}
use Rattle.route_laws.proofs.served.Woken.{asked_from}
use Rattle.serve_laws.specs.Served.{DoesLine, line}
use Rattle.kernel_model.specs.Kernel.{living_at}

-- ---- calls that may have to wait

none-both : (t : Bool) → (t && false) ≡ false
none-both true = refl
none-both false = refl

-- steps on a set that are made with IPC_NOWAIT can't have to wait
pub steps-wait-not : (steps : List SemStep) → list_any may_wait (map step_at_once steps) ≡ false
steps-wait-not [] = refl
steps-wait-not (step ∷ steps) =
    ap (λ t. t || list_any may_wait (map step_at_once steps)) (none-both (int_le step.add (pos 0)))
    ∙ steps-wait-not steps

-- at once they are served
pub parks-served : (call : Call) → may_park call ≡ true → is_served (at_once call) ≡ true
parks-served (calls.WaitPid child nohang) h = refl
parks-served (calls.MsgSnd id class text nowait) h = refl
parks-served (calls.MsgRcv id class size noerror nowait) h = refl
parks-served (calls.SemOp id steps) h = ap not (steps-wait-not steps)
parks-served (calls.Withdraw name) h = absurd (false≢true h)
parks-served call h = absurd (false≢true h)

-- and they remove nothing
pub parks-no-queue : (call : Call) → may_park call ≡ true → removed_queue call ≡ None
parks-no-queue (calls.MsgRmid id) h = absurd (false≢true h)
parks-no-queue call h = refl

pub parks-no-set : (call : Call) → may_park call ≡ true → removed_set call ≡ None
parks-no-set (calls.SemRmid id) h = absurd (false≢true h)
parks-no-set call h = refl

-- a call on a name isn't the process's own
pub on-not-own : (name : Name) (home : Home) → is_on name home ≡ true → is_own_home home ≡ false
on-not-own name (homes.At other) h = refl
on-not-own name (homes.Removal other) h = refl
on-not-own name homes.Own h = absurd (false≢true h)
on-not-own name homes.Keys h = absurd (false≢true h)
on-not-own name homes.Parent h = absurd (false≢true h)

-- ---- those who are woken

pub record IsWoken (script : Script) (name : Name) (a : Answered) : Type 0 where
  pub asks : IsCallOf script (asked_from a.who)
  pub parks : may_park a.who.call ≡ true
  pub on : is_on name (home_of a.who.pid a.who.call) ≡ true

-- their calls, in hand
abbrev pub requests : List Answered → List Held
requests [] = []
requests (a ∷ more) = Request (asked_from a.who) ∷ requests more

-- their lines
abbrev pub turn_lines : ℕ → List Answered → List Entry
turn_lines p [] = []
turn_lines p (a ∷ more) = line_of p a.who.pid a.who.call a.reply ∷ turn_lines p more

-- where they are then
abbrev pub calls_by : ℕ → List Answered → (ℕ → CallPlace) → ℕ → CallPlace
calls_by p [] f = f
calls_by p (a ∷ more) f = calls_by p more (call_in f a.who.caller (place_by (nat_eq a.who.caller p) p a.reply))

-- one of them is node y's
abbrev pub is_among : ℕ → List Answered → Bool
is_among y all = list_any (λ a. nat_eq a.who.caller y) all

-- it is carried out at node p: over, where it is that node's, or its reply is on its way from there
pub record CarriedAt (p y : ℕ) (place : CallPlace) : Type 0 where
  pub reply : Reply
  pub is : place ≡ place_by (nat_eq y p) p reply

place-carried : (own : Bool) (p : ℕ) (reply : Reply) → IsCarriedOut (place_by own p reply)
place-carried true p reply = is_over refl
place-carried false p reply = is_answered p reply refl

-- either way it has its reply
pub carried-out : (p y : ℕ) (place : CallPlace) → CarriedAt p y place → IsCarriedOut place
carried-out p y place c = subst IsCarriedOut (sym c.is) (place-carried (nat_eq y p) p c.reply)

-- another's call is where it was
pub others-there : (p y : ℕ) (all : List Answered) (f : ℕ → CallPlace) → is_among y all ≡ false
    → calls_by p all f y ≡ f y
others-there p y [] f h = refl
others-there p y (a ∷ more) f h =
    let parts = or_parts (nat_eq a.who.caller y) (is_among y more) h
    in others-there p y more (call_in f a.who.caller (place_by (nat_eq a.who.caller p) p a.reply)) parts.1
    ∙ ap (λ t. if t then place_by (nat_eq a.who.caller p) p a.reply else f y) parts.0

or-first : (a b : Bool) → (a || b) ≡ true → b ≡ false → a ≡ true
or-first true b h none = refl
or-first false b h none = absurd (false≢true (sym none ∙ h))

carried-by : (p y : ℕ) (a : Answered) (more : List Answered) (f : ℕ → CallPlace) → is_among y (a ∷ more) ≡ true
    → (t : Bool) → is_among y more ≡ t
    → (is_among y more ≡ true
    → CarriedAt p y (calls_by p more (call_in f a.who.caller (place_by (nat_eq a.who.caller p) p a.reply)) y))
    → CarriedAt p y (calls_by p (a ∷ more) f y)
carried-by p y a more f h true later rest = rest later
carried-by p y a more f h false none rest =
    let own : nat_eq a.who.caller y ≡ true = or-first (nat_eq a.who.caller y) (is_among y more) h none
    in record {
      reply = a.reply;
      is = others-there p y more (call_in f a.who.caller (place_by (nat_eq a.who.caller p) p a.reply)) none
          ∙ ap (λ t. if t then place_by (nat_eq a.who.caller p) p a.reply else f y) own
          ∙ ap (λ z. place_by (nat_eq z p) p a.reply) (eqb-true a.who.caller y own);
    }

-- and one of these is carried out
pub these-carried : (p y : ℕ) (all : List Answered) (f : ℕ → CallPlace) → is_among y all ≡ true
    → CarriedAt p y (calls_by p all f y)
these-carried p y [] f h = absurd (false≢true h)
these-carried p y (a ∷ more) f h =
    carried-by p y a more f h (is_among y more) refl
    (these-carried p y more (call_in f a.who.caller (place_by (nat_eq a.who.caller p) p a.reply)))

-- ---- what stays beside the world

pub record KeepsRest (b b' : Beside) : Type 0 where
  pub pids : b'.pids ≡ b.pids
  pub deed : b'.deed ≡ b.deed
  pub whole : b'.whole ≡ b.whole
  pub cancel : b'.cancel ≡ b.cancel
  pub dead : (q : ℕ) → living_at b.kernel q ≡ None → living_at b'.kernel q ≡ None

-- two changes, one after the other, leave the rest as it is where each does
pub keeps-both : (b c d : Beside) → KeepsRest b c → KeepsRest c d → KeepsRest b d
keeps-both b c d first second =
    record {
      pids = second.pids ∙ first.pids;
      deed = second.deed ∙ first.deed;
      whole = second.whole ∙ first.whole;
      cancel = second.cancel ∙ first.cancel;
      dead = λ q h. second.dead q (first.dead q h);
    }

-- ---- all turns

-- what was carried out, and where that leads
pub record Turned (script : Script) (v : World) (p : ℕ) (t : Step) (rest : List Held) (b : Beside) (name : Name)
    (all : List Answered) (last : Body) : Type 0 where
  pub beside : Beside
  pub holds : HoldsOwing script (world_after v p t) rest Wakes beside
  pub at : IsAtWork script (world_after v p t) p
  pub lines : beside.lines ≡ b.lines ++ turn_lines p all
  pub body_here : beside.body name ≡ last
  pub body_others : (m : Name) → m ≢ name → beside.body m ≡ b.body m
  pub keeps : KeepsRest b beside
  pub call : beside.call ≡ calls_by p all b.call

module _ (script : Script) (v : World) (p : ℕ) (rest : List Held) (name : Name) (deeds : Deeds) (leader : Leader)
    (ws : List Waiting) (last : Body) where
  -- with this body
  abbrev pub with_body : Step → Body → Step
  with_body m body = with_tables m (put_named deeds name body) leader

  puts-next : (now next : Body) → PutsBody (put_named deeds name now) (put_named deeds name next) name next
  puts-next now next =
      record {
        here = get-put-same-name deeds name next;
        others = λ m other. get-put-other-name deeds name next m other ∙ sym
            (get-put-other-name deeds name now m other);
      }

  -- They are carried out in their order.
  pub all-turns : (more : List Answered) (m : Step) (b : Beside) (now : Body) → b.body name ≡ now
      → HoldsOwing script (world_after v p (with_body m now)) (requests more ++ rest) Wakes b
      → IsAtWork script (world_after v p (with_body m now)) p → b.deed name ≡ InTable p
      → AllByRecursion (IsWoken script name) more → waiters_of now ≡ ws → InTurn name ws now more last
      → Turned script v p (with_body (answer_all script m more) last) rest b name more last
  all-turns [] m b now is holds at here woken waiting turn =
      record {
        beside = b;
        holds = subst (λ body. HoldsOwing script (world_after v p (with_body m body)) rest Wakes b) turn holds;
        at = subst (λ body. IsAtWork script (world_after v p (with_body m body)) p) turn at;
        lines = sym (append-nil b.lines);
        body_here = is ∙ turn;
        body_others = λ other d. refl;
        keeps = record { pids = refl; deed = refl; whole = refl; cancel = refl; dead = λ q h. h };
        call = refl;
      }
  all-turns (a ∷ more) m b now is holds at here woken waiting turn =
      let it : IsWoken script name a = woken.0
      in let next : Body = turn.0
      in let named : name_for a.who.pid a.who.call ≡ Some name =
      name-of-on name a.who.pid (home_of a.who.pid a.who.call) it.on
      in let not_own : is_own a.who.pid a.who.call ≡ false = on-not-own name (home_of a.who.pid a.who.call) it.on
      in let served : is_served (at_once a.who.call) ≡ true = parks-served a.who.call it.parks
      in let does = subst (λ body. DoesLine name (bare body) (line a.who.pid a.who.call a.reply) (bare next)) (sym is)
      turn.1
      in let same : waiters_of next ≡ waiters_of (b.body name) = turn.2 ∙ sym waiting ∙ ap waiters_of (sym is)
      in let keys = keys-same script v p m (put_named deeds name now) leader a (requests more ++ rest) b holds at
      it.asks
      name here named served not_own next does same (put_named deeds name next) (puts-next now next) leader refl refl
      (parks-no-queue a.who.call it.parks) (parks-no-set a.who.call it.parks)
      in let b' : Beside = turn_beside script v p m (put_named deeds name now) leader a (requests more ++ rest) b holds
      at
      it.asks name here named served not_own next does same (put_named deeds name next) (puts-next now next) leader refl
      keys
      in let r = all-turns more (answer_one script m a) b' next
      (ap (λ t. if t then next else b.body name) (same-name name))
      (turn-keeps script v p m (put_named deeds name now) leader a (requests more ++ rest) b holds at it.asks name here
      named served not_own next does same (put_named deeds name next) (puts-next now next) leader refl keys)
      (turn-at script v p m (put_named deeds name now) leader a (requests more ++ rest) b holds at it.asks name here
      named served not_own next does same (put_named deeds name next) (puts-next now next) leader refl)
      here woken.1 turn.2 turn.3
      in record {
        beside = r.beside;
        holds = r.holds;
        at = r.at;
        lines = r.lines
            ∙ append_assoc b.lines (line_of p a.who.pid a.who.call a.reply ∷ []) (turn_lines p more);
        body_here = r.body_here;
        body_others = λ other d. r.body_others other d
            ∙ ap (λ t. if t then next else b.body other) (other-name name other d);
        keeps = keeps-both b b' r.beside
            (record {
              pids = refl;
              deed = refl;
              whole = refl;
              cancel = refl;
              dead = turn-dead script v p m (put_named deeds name now) leader a (requests more ++ rest) b holds at
                  it.asks
                  name here named served not_own next does same (put_named deeds name next) (puts-next now next) leader
                  refl keys;
            }) r.keeps;
        call = r.call;
      }
