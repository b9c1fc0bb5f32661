-- One who waits at a name is taken out by a withdrawal: what the step changes, and what holds then.
use Rattle.std.proofs.Common.{◌≡◌, ◌≢◌, ℕ, ◌++◌, ◌≤◌, Bool, true, false, nat_eq, List, [], ◌∷◌, refl, ap, sym, subst, ◌∙◌, inr}
use Rattle.std.specs.List.{AllByRecursion}
use Rattle.std.proofs.lemmas.Bool.{ne_eqb}
use Rattle.pico_base.specs.declared.numbers.Name.{Name}
use Rattle.pico_base.specs.declared.reply.Errno.TheVariants.{Eintr}
use Rattle.pico_base.specs.declared.reply.Reply.{Reply}
use Rattle.pico_base.specs.declared.reply.Reply.TheVariants as replies
use Rattle.pico_base.specs.declared.script.Script.{Script}
use Rattle.rpc_frame.specs.declared.asked.Asked.{Asked}
use Rattle.kernel_model.specs.Effect.{reply_alone}
use Rattle.waiting_model.specs.declared.callers.Waiting.{Waiting}
use Rattle.waiting_model.specs.Calls.{waits_at}
use Rattle.waiting_model.specs.Linear.{line_of}
use Rattle.waiting_model.specs.Transition.{withdrawn}
use Rattle.node_model.specs.declared.held.Held.{Held}
use Rattle.node_model.specs.Bodies.{waiters_of, whole_in}
use Rattle.node_model.specs.Caller.{Caller}
use Rattle.node_model.specs.Entries.{entry_with}
use Rattle.node_model.specs.Kinds.{is_object, put_named}
use Rattle.node_model.specs.Serving.{body_without, has_waiter}
use Rattle.serve_laws.proofs.Rounds.{without}
use Rattle.world_model.specs.Node.{Node}
use Rattle.world_model.specs.Serving.{interrupted}
use Rattle.world_model.specs.Step.{Step}
use Rattle.world_model.specs.World.{World, node_count, world_after}
use Rattle.world_laws.specs.Places.{Beside, InTable}
use Rattle.world_laws.specs.Sights.{node_of}
use Rattle.world_laws.specs.Callers.{is_about}
use Rattle.world_laws.specs.Cancels.{Wakes, is_cancel_of}
use Rattle.world_laws.specs.Invariant.{HoldsOwing}
use Rattle.world_laws.proofs.Cancels.{IsLater, answer-later, same-later}
use Rattle.world_laws.proofs.Changes.{Changes}
use Rattle.world_laws.proofs.LeftAlone.{SameCaller}
use Rattle.rule_laws.proofs.own.Moved.{IsCarriedOut, is_woken}
use Rattle.route_laws.proofs.cancels.BrokenWhole.{IsBroken}
use Rattle.route_laws.proofs.cancels.TakenOut.{IsBrokenOff, broken-changes, place-over, taken-out}
use Rattle.route_laws.proofs.cancels.Waiter.{TakesOut, takes-out}
use Rattle.route_laws.proofs.served.Nodes.{node_with}
use Rattle.route_laws.proofs.served.Replies.{IsAtWork, caller_by, sends_by}
use Rattle.route_laws.proofs.served.Rounds.{with_waiters}
use Rattle.route_laws.proofs.served.Turns.{node-at}
use Rattle.route_laws.proofs.served.Woken.{asked_from}

-- ---- a node's own call

-- where it is this one it is over
by-later : (script : Script) (own : Bool) (asked : Asked) (reply : Reply) (c : Caller)
    → IsLater c (caller_by script own asked reply c)
by-later script true asked reply c = answer-later script asked.caller c asked.call reply
by-later script false asked reply c = same-later c c refl

-- what is sent is about the caller's call, and no withdrawal
sent-not-about : (y p : ℕ) (own : Bool) (asked : Asked) (reply : Reply) → y ≢ asked.caller
    → AllByRecursion (λ f. is_about y f.0 p f.1 ≡ false) (sends_by own asked reply)
sent-not-about y p true asked reply d = tt
sent-not-about y p false asked reply d = (ne_eqb asked.caller y (λ e. d (sym e)), tt)

sent-no-cancel : (y : ℕ) (own : Bool) (asked : Asked) (reply : Reply)
    → AllByRecursion (λ f. is_cancel_of y f.1 ≡ false) (sends_by own asked reply)
sent-no-cancel y true asked reply = tt
sent-no-cancel y false asked reply = (refl, tt)

-- ---- the step

module _ (script : Script) (v : World) (p : ℕ) (s : Step) (it : Asked) (rest : List Held) (b : Beside)
    (holds : HoldsOwing script (world_after v p s) rest Wakes b) (at : IsAtWork script (world_after v p s) p)
    (name : Name) (low : 1 ≤ it.caller) (high : it.caller ≤ node_count script)
    (process : it.pid ≡ (node_of (world_after v p s) it.caller).pid) (ticket_low : 1 ≤ it.ticket)
    (ticket_high : it.ticket ≤ (node_of (world_after v p s) it.caller).caller.ticket)
    (object : is_object name ≡ true) (here : b.deed name ≡ InTable p)
    (found : has_waiter (b.body name) it.pid it.ticket ≡ true) where
  abbrev x : ℕ
  x = it.caller

  abbrev w : World
  w = world_after v p s

  abbrev reply : Reply
  reply = replies.Fail Eintr

  t : TakesOut script w b name it
  t = takes-out script w rest b holds it low high process ticket_low ticket_high name object found

  abbrev who : Waiting
  who = t.who

  abbrev after : Step
  after = interrupted script s name it (with_waiters (b.body name) (without who.pid (waiters_of (b.body name))))

  broken : IsBrokenOff script (world_after v p after) rest b p x who.pid who.call name
  broken = taken-out script v p s it rest Wakes b holds at name object here who t.there t.caller_is t.ticket_is

  own-pid : who.pid ≡ b.pids x
  own-pid = t.pid_is ∙ t.own_pid

  abbrev mine : Bool
  mine = nat_eq who.caller p

  node-is : node_of w p ≡ s.node
  node-is = node-at script v p s holds.shape at.low at.high

  abbrev after-node : Node
  after-node =
      node_with s.node (caller_by script mine (asked_from who) reply s.node.caller)
      (put_named s.node.deeds name (with_waiters (b.body name) (without who.pid (waiters_of (b.body name)))))
      s.node.leader

  -- The call is over, and its process isn't parked any more.
  is-broken : IsBroken script w (world_after v p after) rest b p x it.call name
  is-broken =
      record {
        beside = broken.beside;
        holds = broken.holds;
        call = t.call;
        lines = broken.lines ∙ (λ i. b.lines ++ line_of p (own-pid i) (t.call_is i) reply ∷ []);
        kernel = broken.kernel;
        pids = broken.pids;
        cancel = broken.cancel;
        place = broken.place;
        others = broken.others;
        bodies = λ before m. broken.bodies before m ∙ ap (λ q. whole_in (withdrawn b.whole q name) m) own-pid;
        under_way = t.under_way;
        parked = inr t.waits;
        at = ap (λ q. waits_at q t.call) (sym t.own_pid ∙ process) ∙ t.at;
        alive = t.alive;
        lives = t.lives;
        may = t.made_may;
        forked = t.forked;
        over = is_woken name t.waits (subst IsCarriedOut (sym broken.place) (place-over (nat_eq x p) p reply));
        node = after-node;
        sends = sends_by mine (asked_from who) reply;
        changes = subst (λ q. Changes script p w (world_after v p after) after-node []
            (sends_by mine (asked_from who) reply)
            (entry_with p q it.call (reply_alone reply) ∷ [])) t.own_pid
            (broken-changes script v p s it rest Wakes b holds at name object here who t.there t.caller_is t.ticket_is);
        same_caller = own-same;
        pid_is = ap (λ (m : Node). m.pid) (sym node-is);
        later = subst (λ (m : Node). IsLater m.caller after-node.caller) (sym node-is)
            (by-later script mine (asked_from who) reply s.node.caller);
        directory_is = ap (λ (m : Node). m.leader.directory) (sym node-is);
        not_about = λ y d. sent-not-about y p mine (asked_from who) reply (λ e. d (e ∙ t.caller_is));
        no_cancel = λ y. sent-no-cancel y mine (asked_from who) reply;
      }
    where
      own-same : p ≢ x → SameCaller (node_of w p) after-node
      own-same other =
          subst (λ (m : Node). SameCaller m after-node) (sym node-is)
          (record {
            number = refl;
            pid = refl;
            stage = refl;
            caller = ap (λ own. caller_by script own (asked_from who) reply s.node.caller)
                (ne_eqb who.caller p (λ e. other (sym e ∙ t.caller_is)));
            leases = refl;
          })

  pub waiter-broken : IsBroken script (world_after v p s)
      (world_after v p (interrupted script s name it (body_without it.pid it.ticket (b.body name)))) rest b p it.caller
      it.call name
  waiter-broken =
      subst (λ body. IsBroken script w (world_after v p (interrupted script s name it body)) rest b p x it.call name)
      (sym t.left) is-broken
