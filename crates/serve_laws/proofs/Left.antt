-- What single changes of a kernel in which callers wait, and which has one name alone, leave of the name.
use Rattle.std.proofs.Common.{◌≡◌, ◌≢◌, ◌∙◌, ℕ, Bool, true, false, nat_eq, List, [], ◌∷◌, fold, Option, Some, Result, Ok, Err, refl, sym, ap, subst}
use Rattle.std.specs.Prelude.{if◌then◌else◌, Contains}
use Rattle.pico_base.specs.declared.numbers.Name.{Name}
use Rattle.pico_base.specs.declared.numbers.Name.TheVariants.{Proc, Msg, Sem}
use Rattle.pico_base.specs.declared.reply.Ending.{Ending}
use Rattle.pico_base.specs.declared.reply.Errno.{Errno}
use Rattle.pico_base.specs.declared.reply.Errno.TheVariants.{Einval, Echild}
use Rattle.pico_base.specs.declared.reply.Reply.{Reply}
use Rattle.pico_base.specs.declared.reply.Reply.TheVariants as replies
use Rattle.pico_base.specs.declared.signal.SigArg.{SigArg}
use Rattle.pico_base.specs.declared.signal.SigArg.TheVariants.{Zero, Is, Bad}
use Rattle.pico_base.specs.Signal.{at}
use Rattle.number_maps.specs.Maps.{Numbered, get, put}
use Rattle.number_maps.proofs.LookUps.{get-first, get-put-same, get-put-other, get-without-same}
use Rattle.number_maps.proofs.Order.{eq-same}
use Rattle.kernel_model.specs.Queue.{Queue}
use Rattle.kernel_model.specs.Row.{Row, Waited, Found, NotYet, NoChild, wait, ended_child}
use Rattle.kernel_model.specs.SemaphoreSet.{SemaphoreSet}
use Rattle.kernel_model.specs.Signals.{Signals, raise}
use Rattle.waiting_model.specs.declared.callers.Wake.{Wake}
use Rattle.waiting_model.specs.Waiters.{Awaited, Carried, wakes_at_removal}
use Rattle.waiting_model.specs.Marks.{Alive, raise_by_other, with_signals_of}
use Rattle.waiting_model.specs.Kernel.{Kernel, Process, wake_all, wake_one, with_alive}
use Rattle.waiting_model.specs.Kernel as kernel
use Rattle.waiting_model.specs.Effect.{Effect, park, reply_with, replying}
use Rattle.waiting_model.specs.ProcessCalls.{action_effect, parent_after_wait, reap_child, signal_living, with_signals}
use Rattle.waiting_model.specs.QueueCalls.{queue_effect, remove_queue}
use Rattle.waiting_model.specs.SetCalls.{remove_set, set_effect}
use Rattle.node_model.specs.Awaiting.{Applied, applied, at_once_on, in_whole, on_object, reap, removed, waits}
use Rattle.node_model.specs.Bodies.{Body, Living, Gone, AQueue, ASet, free_to_act, kernel_with, whole_in, whole_process, whole_queue, whole_set}
use Rattle.node_model.specs.Carrying.{act, signal}
use Rattle.serve_laws.proofs.Committed.{free_alive}
use Rattle.serve_laws.proofs.Effects.{found_there}

-- ---- what an effect leaves of the name

pub record Leaves (name : Name) (d : Applied Body) (e : Effect) : Type 0 where
  pub own : e.own ≡ d.own
  pub wakes : e.wakes ≡ d.wakes
  pub there : whole_in e.kernel name ≡ d.left
  pub found : (child : ℕ) (ending : Ending) → d.own ≡ Some (replies.Child child ending)
      → whole_in e.kernel (Proc child) ≡ Gone

-- a reply that finds no child
abbrev pub FindsNone : Reply → Type 0
FindsNone r = (child : ℕ) (ending : Ending) → r ≡ replies.Child child ending → ⊥

none-of : (r : Reply) → FindsNone r → (child : ℕ) (ending : Ending) → Some r ≡ Some (replies.Child child ending) → ⊥
none-of r none child ending is = none child ending (cc)

-- nothing changes, and the caller has its reply, or has to wait
pub stays : (k : Kernel) (name : Name) (body : Body) (r : Reply) → FindsNone r → whole_in k name ≡ body
    → Leaves name (applied body r) (replying k r)
stays k name body r none at = record {
  own = refl;
  wakes = refl;
  there = at;
  found = λ child ending is. absurd (none-of r none child ending is);
}

pub parks : (k : Kernel) (name : Name) (body : Body) → whole_in k name ≡ body → Leaves name (waits body) (park k)
parks k name body at = record {
  own = refl;
  wakes = refl;
  there = at;
  found = λ child ending is. absurd (cc);
}

-- a living process changes
pub process-changes : (k : Kernel) (pid : ℕ) (a : Alive) (r : Reply) → FindsNone r
    → Leaves (Proc pid) (applied (Living a.row) r) (replying (with_alive k pid a) r)
process-changes k pid a r none = record {
  own = refl;
  wakes = refl;
  there = ap whole_process (get-put-same k.processes pid (kernel.Living a));
  found = λ child ending is. absurd (none-of r none child ending is);
}

-- a child is found, and is gone
pub child-found : (k : Kernel) (pid child : ℕ) (ending : Ending) (a : Alive) → pid ≢ child
    → Leaves (Proc pid) (applied (Living a.row) (replies.Child child ending))
    (replying (record k { processes = put (put k.processes pid (kernel.Living a)) child kernel.Gone })
    (replies.Child child ending))
child-found k pid child ending a apart = record {
  own = refl;
  wakes = refl;
  there = ap whole_process
      (get-put-other (put k.processes pid (kernel.Living a)) child kernel.Gone pid apart
      ∙ get-put-same k.processes pid (kernel.Living a));
  found = λ other e is.
      let same : child ≡ other = cc
      in subst (λ (n : ℕ).
      whole_process (get (put (put k.processes pid (kernel.Living a)) child kernel.Gone) n) ≡ Gone) same
      (ap whole_process (get-put-same (put k.processes pid (kernel.Living a)) child kernel.Gone));
}

-- ---- own calls

-- the kernel that has a living process alone has its row
pub lives-there : (pid : ℕ) (row : Row) → whole_in (kernel_with (Proc pid) (Living row)) (Proc pid) ≡ Living row
lives-there pid row = ap whole_process (get-first (pid, kernel.Living (free_to_act row)) [] pid refl)

module _ (pid : ℕ) (row : Row) where
  abbrev k : Kernel
  k = kernel_with (Proc pid) (Living row)

  abbrev a : Alive
  a = free_to_act row

  pub changes-signals : (s : Signals) (r : Reply) → FindsNone r
      → Leaves (Proc pid) (applied (Living (record row { signals = s })) r) (replying (with_signals k pid a s) r)
  changes-signals s r none = process-changes k pid (with_signals_of a s) r none

  pub acts : (r : Result Signals Errno)
      → Leaves (Proc pid) (in_whole Living (at_once_on (act row r))) (action_effect k pid a r)
  acts (Ok s) = changes-signals s (replies.Num 0) (λ child ending is. absurd (cc))
  acts (Err e) = stays k (Proc pid) (Living row) (replies.Fail e) (λ child ending is. absurd (cc)) (lives-there pid row)

  pub reaps : (nohang : Bool) (which : Option ℕ) (w : Waited) → wait row.family which ≡ w
      → ((child : ℕ) (ending : Ending) → Contains row.family.ended (ended_child child ending) → pid ≢ child)
      → Leaves (Proc pid) (in_whole Living (reap row nohang w)) (reap_child k pid a nohang w)
  reaps nohang which (Found child ending) is apart =
      child-found k pid child ending (parent_after_wait a child)
      (apart child ending (found_there (free_alive row) which child ending is))
  reaps true which NotYet is apart =
      stays k (Proc pid) (Living row) (replies.Num 0) (λ child ending same. absurd (cc)) (lives-there pid row)
  reaps false which NotYet is apart = parks k (Proc pid) (Living row) (lives-there pid row)
  reaps nohang which NoChild is apart =
      stays k (Proc pid) (Living row) (replies.Fail Echild) (λ child ending same. absurd (cc)) (lives-there pid row)

  -- a signal to oneself
  pub raises-own : (sig : SigArg)
      → Leaves (Proc pid) (in_whole Living (at_once_on (signal row sig))) (signal_living k pid pid a sig)
  raises-own Zero =
      stays k (Proc pid) (Living row) (replies.Num 0) (λ child ending is. absurd (cc)) (lives-there pid row)
  raises-own Bad =
      stays k (Proc pid) (Living row) (replies.Fail Einval) (λ child ending is. absurd (cc)) (lives-there pid row)
  raises-own (Is g) =
      subst (λ (b : Bool). Leaves (Proc pid) (in_whole Living (at_once_on (signal row (Is g))))
      (reply_with (if b then with_signals k pid a (raise row.signals g) else with_alive k pid (raise_by_other a g)) 0))
      (sym (eq-same pid)) (changes-signals (raise row.signals g) (replies.Num 0) (λ child ending is. absurd (cc)))

  -- and to another process
  pub raises-other : (caller : ℕ) (sig : SigArg) → nat_eq caller pid ≡ false
      → Leaves (Proc pid) (in_whole Living (at_once_on (signal row sig))) (signal_living k caller pid a sig)
  raises-other caller Zero apart =
      stays k (Proc pid) (Living row) (replies.Num 0) (λ child ending is. absurd (cc)) (lives-there pid row)
  raises-other caller Bad apart =
      stays k (Proc pid) (Living row) (replies.Fail Einval) (λ child ending is. absurd (cc)) (lives-there pid row)
  raises-other caller (Is g) apart =
      subst (λ (b : Bool). Leaves (Proc pid) (in_whole Living (at_once_on (signal row (Is g))))
      (reply_with (if b then with_signals k pid a (raise row.signals g) else with_alive k pid (raise_by_other a g)) 0))
      (sym apart) (process-changes k pid (raise_by_other a g) (replies.Num 0) (λ child ending is. absurd (cc)))

-- ---- queues and sets

-- of no process nobody is woken
none-woken : (wakes : List Wake) → fold wake_one [] wakes ≡ []
none-woken [] = refl
none-woken (w ∷ wakes) = none-woken wakes

nobody : (ps : Numbered Process) (n : ℕ) (wakes : List Wake) → ps ≡ []
    → whole_process (get (fold wake_one ps wakes) n) ≡ Gone
nobody ps n wakes none =
    ap (λ (qs : Numbered Process). whole_process (get (fold wake_one qs wakes) n)) none
    ∙ ap (λ (qs : Numbered Process). whole_process (get qs n)) (none-woken wakes)

-- what is left of a queue, and of a set
pub queue-left : (k : Kernel) (id : ℕ) (c : Carried Queue) → k.processes ≡ []
    → Leaves (Msg id) (on_object AQueue c) (queue_effect k id c)
queue-left k id c none = record {
  own = refl;
  wakes = refl;
  there = ap whole_queue (get-put-same k.queues id c.object);
  found = λ child ending is. nobody k.processes child c.wakes none;
}

-- and a set
pub set-left : (k : Kernel) (id : ℕ) (c : Carried SemaphoreSet) → k.processes ≡ []
    → Leaves (Sem id) (on_object ASet c) (set_effect k id c)
set-left k id c none = record {
  own = refl;
  wakes = refl;
  there = ap whole_set (get-put-same k.sets id c.object);
  found = λ child ending is. nobody k.processes child c.wakes none;
}

-- a removed queue leaves nothing under its name, and wakes all who waited there
pub queue-gone : (k : Kernel) (id : ℕ) (q : Awaited Queue)
    → Leaves (Msg id) (removed (wakes_at_removal q)) (remove_queue k id q)
queue-gone k id q = record {
  own = refl;
  wakes = refl;
  there = ap whole_queue (get-without-same k.queues id);
  found = λ child ending is. absurd (cc);
}

-- and so does a removed set
pub set-gone : (k : Kernel) (id : ℕ) (s : Awaited SemaphoreSet)
    → Leaves (Sem id) (removed (wakes_at_removal s)) (remove_set k id s)
set-gone k id s = record {
  own = refl;
  wakes = refl;
  there = ap whole_set (get-without-same k.sets id);
  found = λ child ending is. absurd (cc);
}
