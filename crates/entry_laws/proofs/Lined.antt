-- What is served on a body is so many lines: each leads the kernel on, and leaves there what it leaves of the body.
use Rattle.std.proofs.Common.{◌≡◌, ◌≢◌, ℕ, true, false, Option, Some, None, refl, ap, sym, subst, ◌∙◌}
use Rattle.std.proofs.lemmas.Bool.{false≢true}
use Rattle.pico_base.specs.declared.call.Call.{Call}
use Rattle.pico_base.specs.declared.call.Call.TheVariants as calls
use Rattle.pico_base.specs.declared.numbers.Name.{Name}
use Rattle.pico_base.specs.declared.reply.Ending.{Ending}
use Rattle.pico_base.specs.declared.reply.Errno.TheVariants.{Eidrm}
use Rattle.pico_base.specs.declared.reply.Reply.{Reply}
use Rattle.pico_base.specs.declared.reply.Reply.TheVariants as replies
use Rattle.key_table.specs.declared.Bound.{Bound}
use Rattle.number_maps.specs.Maps.{Numbered, get}
use Rattle.number_maps.specs.Rising.{IsRising}
use Rattle.kernel_model.specs.Effect.{reply_alone}
use Rattle.kernel_model.specs.History.{number_in}
use Rattle.kernel_model.specs.Kernel.{Kernel}
use Rattle.kernel_model.specs.SetCalls.{set_size}
use Rattle.kernel_model.specs.Transition.{successor, transition}
use Rattle.waiting_model.specs.Calls.{may_park}
use Rattle.waiting_model.specs.Linear.{Does, Counts, BreaksOff, at_once, counts_waiters}
use Rattle.node_model.specs.Bodies.{Body, Gone, body_in}
use Rattle.node_model.specs.Carrying.{Done, done, is_served, on_body}
use Rattle.node_model.specs.Serving.{name_for}
use Rattle.serve_laws.specs.Laws.{is_found}
use Rattle.serve_laws.specs.Served.{DoesLine, Line}
use Rattle.serve_laws.specs.Served.{Does as DoesAtOnce, Counts as CountsWaiters, BreaksOff as WaitBreaksOff}
use Rattle.serve_laws.proofs.AtOnce.{at-once-may}
use Rattle.entry_laws.specs.Entering.{Enters, HasKeys, MayMake, removed_queue, removed_set, unless_removed, without_keys_of}
use Rattle.entry_laws.proofs.Keys.{keys-unbound}
use Rattle.entry_laws.proofs.Others.{Lived}
use Rattle.entry_laws.proofs.Replies.{finds}
use Rattle.entry_laws.proofs.Served.{Carried, FindsChild, carried, carried-size, found-by}

-- The line leads to the next kernel, which has on the name what it leaves of the body; a child that was found is gone,
-- and all else stays.
pub record Lined (k : Kernel) (name : Name) (l : Line) (left : Body) : Type 0 where
  pub next : Kernel
  pub enters : Enters k l.pid l.call l.reply None next
  pub does : DoesLine name (body_in k name) l left
  pub there : body_in next name ≡ left
  pub found : (m : Name) → is_found l.reply m ≡ true → body_in next m ≡ Gone
  pub others : (m : Name) → m ≢ name → is_found l.reply m ≡ false → body_in next m ≡ body_in k m
  -- no key leads to what it removes, and the others stay
  pub queue_keys : (key : ℕ) → get next.queue_keys key ≡ unless_removed (removed_queue l.call) (get k.queue_keys key)
  pub set_keys : (key : ℕ) → get next.set_keys key ≡ unless_removed (removed_set l.call) (get k.set_keys key)
  -- the set that a key still leads to has its size
  pub sizes : (key id : ℕ) → get next.set_keys key ≡ Some id → set_size next id ≡ set_size k id
  -- the caller lives on
  pub caller : Lived next l.pid

-- ---- a call at once, against the call

-- it may be made, is on the same name, and removes the same
may-at-once : (k : Kernel) (pid : ℕ) (call : Call) → MayMake k pid call → MayMake k pid (at_once call)
may-at-once k pid call m = record {
  valid = m.valid;
  alone = m.alone;
  alive = m.alive;
  lives = m.lives;
  may = at-once-may m.alive call ∙ m.may;
}

named-at-once : (pid : ℕ) (call : Call) → name_for pid (at_once call) ≡ name_for pid call
named-at-once pid (calls.WaitPid child nohang) = refl
named-at-once pid (calls.MsgSnd id class text nowait) = refl
named-at-once pid (calls.MsgRcv id class size noerror nowait) = refl
named-at-once pid (calls.SemOp id steps) = refl
named-at-once pid call = refl

queues-at-once : (call : Call) → removed_queue (at_once call) ≡ removed_queue call
queues-at-once (calls.WaitPid child nohang) = refl
queues-at-once (calls.MsgSnd id class text nowait) = refl
queues-at-once (calls.MsgRcv id class size noerror nowait) = refl
queues-at-once (calls.SemOp id steps) = refl
queues-at-once call = refl

sets-at-once : (call : Call) → removed_set (at_once call) ≡ removed_set call
sets-at-once (calls.WaitPid child nohang) = refl
sets-at-once (calls.MsgSnd id class text nowait) = refl
sets-at-once (calls.MsgRcv id class size noerror nowait) = refl
sets-at-once (calls.SemOp id steps) = refl
sets-at-once call = refl

-- ---- the three kinds of lines

-- what the call does at once
does-lined : (k : Kernel) (name : Name) (l : Line) (left : Body) (m : MayMake k l.pid l.call)
    → is_served (at_once l.call) ≡ true → name_for l.pid l.call ≡ Some name → (d : Done Body)
    → on_body name (body_in k name) l.pid (at_once l.call) ≡ d → d.left ≡ left → d.reply ≡ l.reply
    → Lined k name l left
does-lined k name l left m served named d is left_is reply_is =
    let on_name : name_for l.pid (at_once l.call) ≡ Some name = named-at-once l.pid l.call ∙ named
    in let c : Carried k l.pid (at_once l.call) name =
    carried k l.pid (at_once l.call) name (may-at-once k l.pid l.call m) served on_name
    in let answer : c.reply ≡ l.reply = c.follows.reply ∙ ap (λ (x : Done Body). x.reply) is ∙ reply_is
    in record {
      next = c.next;
      enters = record {
        makes = record {
          leads = λ node.
              Does
              (subst (λ (r : Reply).
              transition k l.pid (at_once l.call) (number_in (Some r)) ≡ Some (successor c.next (reply_alone r))) answer
              c.step);
        };
        used = c.enters.used;
      };
      does = DoesAtOnce d is left_is reply_is;
      there = c.follows.there ∙ ap (λ (x : Done Body). x.left) is ∙ left_is;
      found = λ x yes. c.follows.found x (ap (λ (r : Reply). is_found r x) answer ∙ yes);
      others = λ x other not. c.follows.others x other (ap (λ (r : Reply). is_found r x) answer ∙ not);
      queue_keys = λ key.
          c.queue_keys key
          ∙ ap (λ (o : Option ℕ). unless_removed o (get k.queue_keys key)) (queues-at-once l.call);
      set_keys = λ key.
          c.set_keys key ∙ ap (λ (o : Option ℕ). unless_removed o (get k.set_keys key)) (sets-at-once l.call);
      sizes = λ key id bound. carried-size k l.pid (at_once l.call) name c on_name key id bound;
      caller = c.caller;
    }

counts-is-served : (call : Call) → counts_waiters call ≡ true → is_served call ≡ true
counts-is-served (calls.SemGetNcnt id num) h = refl
counts-is-served (calls.SemGetZcnt id num) h = refl
counts-is-served call h = absurd (false≢true h)

-- a count of those who wait, of whom the kernel knows none
counts-lined : (k : Kernel) (name : Name) (l : Line) (left : Body) (m : MayMake k l.pid l.call)
    → name_for l.pid l.call ≡ Some name → (n : ℕ) → counts_waiters l.call ≡ true → l.reply ≡ replies.Num n
    → on_body name (body_in k name) l.pid l.call ≡ done left (replies.Num 0) → Lined k name l left
counts-lined k name l left m named n counts reply_is is =
    let c : Carried k l.pid l.call name =
    carried k l.pid l.call name m (counts-is-served l.call counts) named
    in let answer : c.reply ≡ replies.Num 0 = c.follows.reply ∙ ap (λ (x : Done Body). x.reply) is
    in let none : (x : Name) → is_found l.reply x ≡ is_found c.reply x =
    λ x. ap (λ (r : Reply). is_found r x) reply_is ∙ sym (ap (λ (r : Reply). is_found r x) answer)
    in record {
      next = c.next;
      enters = record {
        makes = record {
          leads = λ node.
              Counts n counts (ap reply_alone reply_is)
              (subst (λ (r : Reply).
              transition k l.pid l.call (number_in (Some r)) ≡ Some (successor c.next (reply_alone r))) answer c.step);
        };
        used = c.enters.used;
      };
      does = CountsWaiters n counts reply_is is;
      there = c.follows.there ∙ ap (λ (x : Done Body). x.left) is;
      found = λ x yes. c.follows.found x (sym (none x) ∙ yes);
      others = λ x other not. c.follows.others x other (sym (none x) ∙ not);
      queue_keys = c.queue_keys;
      set_keys = c.set_keys;
      sizes = λ key id bound. carried-size k l.pid l.call name c named key id bound;
      caller = c.caller;
    }

parked-keeps-queues : (call : Call) → may_park call ≡ true → removed_queue call ≡ None
parked-keeps-queues (calls.MsgRmid id) h = absurd (false≢true h)
parked-keeps-queues call h = refl

parked-keeps-sets : (call : Call) → may_park call ≡ true → removed_set call ≡ None
parked-keeps-sets (calls.SemRmid id) h = absurd (false≢true h)
parked-keeps-sets call h = refl

-- a wait that is broken off, which does nothing
breaks-lined : (k : Kernel) (name : Name) (l : Line) (left : Body) (m : MayMake k l.pid l.call)
    → may_park l.call ≡ true → l.reply ≡ replies.Fail Eidrm → left ≡ body_in k name → Lined k name l left
breaks-lined k name l left m parks reply_is same = record {
  next = k;
  enters = record {
    makes = record { leads = λ node. BreaksOff Eidrm parks refl (ap reply_alone reply_is) refl };
    used = λ kind. refl;
  };
  does = WaitBreaksOff parks reply_is same;
  there = sym same;
  found = λ x yes. absurd (false≢true (sym (ap (λ (r : Reply). is_found r x) reply_is) ∙ yes));
  others = λ x other not. refl;
  queue_keys = λ key.
      sym (ap (λ (o : Option ℕ). unless_removed o (get k.queue_keys key)) (parked-keeps-queues l.call parks));
  set_keys = λ key.
      sym (ap (λ (o : Option ℕ). unless_removed o (get k.set_keys key)) (parked-keeps-sets l.call parks));
  sizes = λ key id bound. refl;
  caller = record { alive = m.alive; lives = m.lives };
}

-- each line of a call that may be made leads on so
pub lined : (k : Kernel) (name : Name) (l : Line) (left : Body) → MayMake k l.pid l.call
    → is_served (at_once l.call) ≡ true → name_for l.pid l.call ≡ Some name → DoesLine name (body_in k name) l left
    → Lined k name l left
lined k name l left m served named (DoesAtOnce d is left_is reply_is) =
    does-lined k name l left m served named d is left_is reply_is
lined k name l left m served named (CountsWaiters n counts reply_is is) =
    counts-lined k name l left m named n counts reply_is is
lined k name l left m served named (WaitBreaksOff parks reply_is same) =
    breaks-lined k name l left m parks reply_is same

-- ---- what it leaves, in the invariant's words

-- a reply that found a child has found one that its parent kept
pub lined-finds : (k : Kernel) (name : Name) (l : Line) (left : Body) (m : MayMake k l.pid l.call)
    (c : Lined k name l left) (child : ℕ) (ending : Ending) → name_for l.pid l.call ≡ Some name
    → l.reply ≡ replies.Child child ending → FindsChild k l.pid name m.alive child ending
unfolding may-at-once
lined-finds k name l left m c child ending named is = by c.does
  where
    by : DoesLine name (body_in k name) l left → FindsChild k l.pid name m.alive child ending
    by (DoesAtOnce d on left_is reply_is) =
        found-by k l.pid (at_once l.call) name (may-at-once k l.pid l.call m) l.reply child ending
        (named-at-once l.pid l.call ∙ named) is (sym (ap (λ (x : Done Body). x.reply) on ∙ reply_is))
    by (CountsWaiters n counts reply_is on) = absurd (false≢true (sym (ap finds reply_is) ∙ ap finds is))
    by (WaitBreaksOff parks reply_is same) = absurd (false≢true (sym (ap finds reply_is) ∙ ap finds is))

-- the leader's tables, without the keys of what the call removes
pub lined-keys : (queue_keys set_keys : Numbered Bound) (k : Kernel) (name : Name) (l : Line) (left : Body)
    (c : Lined k name l left) → IsRising queue_keys → IsRising set_keys → HasKeys queue_keys set_keys k
    → HasKeys (without_keys_of (removed_queue l.call) queue_keys) (without_keys_of (removed_set l.call) set_keys) c.next
lined-keys queue_keys set_keys k name l left c rises rises_too h =
    keys-unbound queue_keys set_keys (removed_queue l.call) (removed_set l.call) k c.next rises rises_too h c.queue_keys
    c.set_keys c.sizes
