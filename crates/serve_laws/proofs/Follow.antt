-- What single changes of a kernel leave of its names' parts.
use Rattle.std.proofs.Common.{◌≡◌, ◌≢◌, ◌∙◌, ℕ, Bool, true, false, nat_eq, Option, Some, None, Result, Ok, Err, refl, ap, arith}
use Rattle.std.specs.Option.{option_and_then}
use Rattle.pico_base.specs.declared.call.Call.{Call}
use Rattle.pico_base.specs.declared.numbers.Name.{Name}
use Rattle.pico_base.specs.declared.numbers.Name.TheVariants.{Proc, Msg, Sem}
use Rattle.pico_base.specs.declared.reply.Ending.{Ending}
use Rattle.pico_base.specs.declared.reply.Errno.{Errno}
use Rattle.pico_base.specs.declared.reply.Errno.TheVariants.{Einval}
use Rattle.pico_base.specs.declared.reply.Reply.{Reply}
use Rattle.pico_base.specs.declared.reply.Reply.TheVariants as replies
use Rattle.number_maps.specs.Maps.{get, put, without}
use Rattle.kernel_model.specs.Queue.{Queue, Received}
use Rattle.kernel_model.specs.SemaphoreSet.{SemaphoreSet}
use Rattle.kernel_model.specs.Row.{Alive}
use Rattle.kernel_model.specs.Kernel.{Kernel, Process, alive_in}
use Rattle.kernel_model.specs.Kernel as kernel
use Rattle.kernel_model.specs.Effect.{Effect, look_up, on_named}
use Rattle.kernel_model.specs.QueueCalls.{change_queue, receive_effect, remove_queue}
use Rattle.kernel_model.specs.SetCalls.{change_set, remove_set}
use Rattle.waiting_model.specs.Waiters.{unawaited}
use Rattle.number_maps.proofs.LookUps.{get-put-same, get-put-other, get-without-same, get-without-other}
use Rattle.node_model.specs.Bodies.{Body, Living, Gone, AQueue, ASet, Removed, body_in, process_body, queue_body, set_body}
use Rattle.node_model.specs.Carrying.{Done, done, change, look, take_message, in_body, on_body}
use Rattle.serve_laws.specs.Laws.{Follows, is_found}

-- the effect leaves what was done to the name's body, with its reply
abbrev pub Acts : Kernel → Name → Done Body → Effect → Type 0
Acts k name d e = Follows k name d e.kernel e.reply

-- a queue and a set at which nobody waits
abbrev pub a_queue : Queue → Body
a_queue q = AQueue (unawaited q)

-- and such a set
abbrev pub a_set : SemaphoreSet → Body
a_set s = ASet (unawaited s)

-- nothing changes
pub stays : (k : Kernel) (name : Name) (body : Body) (r : Reply) → ((other : Name) → is_found r other ≡ false)
    → body_in k name ≡ body
    → Acts k name (done body r) (record { kernel = k; reply = r })
stays k name body r none is = record {
  reply = refl;
  there = is;
  found = λ other yes. absurd (differ (none other) yes);
  others = λ other apart not_found. refl;
}
  where
    differ : {b : Bool} → b ≡ false → b ≡ true → ⊥
    differ p q = cc

-- a queue changes
queue_put : (k : Kernel) (id : ℕ) (q : Queue) (r : Reply) → ((other : Name) → is_found r other ≡ false)
    → Acts k (Msg id) (done (a_queue q) r) (record { kernel = record k { queues = put k.queues id q }; reply = r })
queue_put k id q r none = record {
  reply = refl;
  there = ap queue_body (get-put-same k.queues id q);
  found = λ other yes. absurd (differ (none other) yes);
  others = others;
}
  where
    differ : {b : Bool} → b ≡ false → b ≡ true → ⊥
    differ p q = cc

    others : (other : Name) → other ≢ Msg id → is_found r other ≡ false
        → body_in (record k { queues = put k.queues id q }) other ≡ body_in k other
    others (Proc p) apart not_found = refl
    others (Sem s) apart not_found = refl
    others (Msg i) apart not_found = ap queue_body (get-put-other k.queues id q i (λ (e : i ≡ id). apart (ap Msg e)))

set_put : (k : Kernel) (id : ℕ) (s : SemaphoreSet) (r : Reply) → ((other : Name) → is_found r other ≡ false)
    → Acts k (Sem id) (done (a_set s) r) (record { kernel = record k { sets = put k.sets id s }; reply = r })
set_put k id s r none = record {
  reply = refl;
  there = ap set_body (get-put-same k.sets id s);
  found = λ other yes. absurd (differ (none other) yes);
  others = others;
}
  where
    differ : {b : Bool} → b ≡ false → b ≡ true → ⊥
    differ p q = cc

    others : (other : Name) → other ≢ Sem id → is_found r other ≡ false
        → body_in (record k { sets = put k.sets id s }) other ≡ body_in k other
    others (Proc p) apart not_found = refl
    others (Msg i) apart not_found = refl
    others (Sem i) apart not_found = ap set_body (get-put-other k.sets id s i (λ (e : i ≡ id). apart (ap Sem e)))

-- ---- by the kernel's words

-- a call that changes a queue or is refused
pub queue-changes : (k : Kernel) (id : ℕ) (q : Queue) (r : Result Queue Errno) → get k.queues id ≡ Some q
    → Acts k (Msg id) (in_body a_queue (change q r)) (change_queue k id r)
queue-changes k id q (Ok w) there = queue_put k id w (replies.Num 0) (λ other. refl)
queue-changes k id q (Err e) there = stays k (Msg id) (a_queue q) (replies.Fail e) (λ other. refl) (ap queue_body there)

-- a receive that takes a message or is refused
pub queue-receives : (k : Kernel) (id : ℕ) (q : Queue) (r : Result Received Errno) → get k.queues id ≡ Some q
    → Acts k (Msg id) (in_body a_queue (take_message q r)) (receive_effect k id r)
queue-receives k id q (Ok w) there =
    queue_put k id w.queue (replies.Message w.message.class w.message.text) (λ other. refl)
queue-receives k id q (Err e) there =
    stays k (Msg id) (a_queue q) (replies.Fail e) (λ other. refl) (ap queue_body there)

-- a call that changes a set or is refused
pub set-changes : (k : Kernel) (id : ℕ) (s : SemaphoreSet) (r : Result SemaphoreSet Errno) → get k.sets id ≡ Some s
    → Acts k (Sem id) (in_body a_set (change s r)) (change_set k id r)
set-changes k id s (Ok w) there = set_put k id w (replies.Num 0) (λ other. refl)
set-changes k id s (Err e) there = stays k (Sem id) (a_set s) (replies.Fail e) (λ other. refl) (ap set_body there)

-- a call that looks at a set or is refused
pub set-looks : (k : Kernel) (id : ℕ) (s : SemaphoreSet) (r : Result ℕ Errno) → get k.sets id ≡ Some s
    → Acts k (Sem id) (in_body a_set (look s r)) (look_up k r)
set-looks k id s (Ok n) there = stays k (Sem id) (a_set s) (replies.Num n) (λ other. refl) (ap set_body there)
set-looks k id s (Err e) there = stays k (Sem id) (a_set s) (replies.Fail e) (λ other. refl) (ap set_body there)

-- the removal of a queue
pub queue-removed : (k : Kernel) (id : ℕ) → Acts k (Msg id) (done Removed (replies.Num 0)) (remove_queue k id)
queue-removed k id = record {
  reply = refl;
  there = ap queue_body (get-without-same k.queues id);
  found = λ other yes. absurd (cc);
  others = others;
}
  where
    others : (other : Name) → other ≢ Msg id → false ≡ false
        → body_in (record k { queues = without k.queues id }) other ≡ body_in k other
    others (Proc p) apart not_found = refl
    others (Sem s) apart not_found = refl
    others (Msg i) apart not_found = ap queue_body (get-without-other k.queues id i (λ (e : i ≡ id). apart (ap Msg e)))

-- the removal of a set
pub set-removed : (k : Kernel) (id : ℕ) → Acts k (Sem id) (done Removed (replies.Num 0)) (remove_set k id)
set-removed k id = record {
  reply = refl;
  there = ap set_body (get-without-same k.sets id);
  found = λ other yes. absurd (cc);
  others = others;
}
  where
    others : (other : Name) → other ≢ Sem id → false ≡ false
        → body_in (record k { sets = without k.sets id }) other ≡ body_in k other
    others (Proc p) apart not_found = refl
    others (Msg s) apart not_found = refl
    others (Sem i) apart not_found = ap set_body (get-without-other k.sets id i (λ (e : i ≡ id). apart (ap Sem e)))

-- a call on a queue or a set, which may not be there
pub at-queue : (k : Kernel) (id pid : ℕ) (call : Call) (f : Queue → Effect)
    → ((q : Queue) → get k.queues id ≡ Some q → Acts k (Msg id) (on_body (Msg id) (a_queue q) pid call) (f q))
    → (o : Option Queue) → get k.queues id ≡ o
    → Acts k (Msg id) (on_body (Msg id) (queue_body o) pid call) (on_named k o f)
at-queue k id pid call f acts None there =
    stays k (Msg id) Removed (replies.Fail Einval) (λ other. refl) (ap queue_body there)
at-queue k id pid call f acts (Some q) there = acts q there

-- a call on a set, by whether the kernel has the set
pub at-set : (k : Kernel) (id pid : ℕ) (call : Call) (f : SemaphoreSet → Effect)
    → ((s : SemaphoreSet) → get k.sets id ≡ Some s → Acts k (Sem id) (on_body (Sem id) (a_set s) pid call) (f s))
    → (o : Option SemaphoreSet) → get k.sets id ≡ o
    → Acts k (Sem id) (on_body (Sem id) (set_body o) pid call) (on_named k o f)
at-set k id pid call f acts None there =
    stays k (Sem id) Removed (replies.Fail Einval) (λ other. refl) (ap set_body there)
at-set k id pid call f acts (Some s) there = acts s there

-- ---- processes

-- who is found alive is in the kernel as one who lives
pub same_living : (o : Option Process) (a : Alive) → option_and_then alive_in o ≡ Some a → o ≡ Some (kernel.Living a)
same_living None a h = absurd (cc)
same_living (Some (kernel.Living b)) a h = let same : b ≡ a = cc in ap (λ (x : Alive). Some (kernel.Living x)) same
same_living (Some (kernel.Ended e)) a h = absurd (cc)
same_living (Some kernel.Gone) a h = absurd (cc)

-- a living process changes
pub process-changes : (k : Kernel) (pid : ℕ) (a : Alive) (r : Reply) → ((other : Name) → is_found r other ≡ false)
    → Acts k (Proc pid) (done (Living a.row) r)
    (record { kernel = record k { processes = put k.processes pid (kernel.Living a) }; reply = r })
process-changes k pid a r none = record {
  reply = refl;
  there = ap process_body (get-put-same k.processes pid (kernel.Living a));
  found = λ other yes. absurd (differ (none other) yes);
  others = others;
}
  where
    differ : {b : Bool} → b ≡ false → b ≡ true → ⊥
    differ p q = cc

    others : (other : Name) → other ≢ Proc pid → is_found r other ≡ false
        → body_in (record k { processes = put k.processes pid (kernel.Living a) }) other ≡ body_in k other
    others (Msg i) apart not_found = refl
    others (Sem i) apart not_found = refl
    others (Proc p) apart not_found =
        ap process_body (get-put-other k.processes pid (kernel.Living a) p (λ (e : p ≡ pid). apart (ap Proc e)))

-- a child is found, and is gone
pub child-found : (k : Kernel) (pid child : ℕ) (ending : Ending) (a : Alive) → pid ≢ child
    → Acts k (Proc pid) (done (Living a.row) (replies.Child child ending))
    (record {
      kernel = record k { processes = put (put k.processes pid (kernel.Living a)) child kernel.Gone };
      reply =
          replies.Child child ending;
    })
child-found k pid child ending a apart = record {
  reply = refl;
  there = ap process_body
      (get-put-other (put k.processes pid (kernel.Living a)) child kernel.Gone pid apart
      ∙ get-put-same k.processes pid (kernel.Living a));
  found = found;
  others = others;
}
  where
    next : Kernel
    next = record k { processes = put (put k.processes pid (kernel.Living a)) child kernel.Gone }

    is_number : (n m : ℕ) → nat_eq n m ≡ true → m ≡ n
    is_number n m h = grind arith

    isnt_number : (n m : ℕ) → nat_eq n m ≡ false → m ≢ n
    isnt_number n m h = grind arith

    found : (other : Name) → is_found (replies.Child child ending) other ≡ true
        → body_in (record k { processes = put (put k.processes pid (kernel.Living a)) child kernel.Gone }) other ≡ Gone
    found (Msg i) is_child = absurd (cc)
    found (Sem i) is_child = absurd (cc)
    found (Proc p) is_child =
        ap (λ (q : ℕ). process_body (get (put (put k.processes pid (kernel.Living a)) child kernel.Gone) q))
        (is_number child p is_child)
        ∙ ap process_body (get-put-same (put k.processes pid (kernel.Living a)) child kernel.Gone)

    others : (other : Name) → other ≢ Proc pid → is_found (replies.Child child ending) other ≡ false
        → body_in (record k { processes = put (put k.processes pid (kernel.Living a)) child kernel.Gone }) other
        ≡ body_in k other
    others (Msg i) here not_found = refl
    others (Sem i) here not_found = refl
    others (Proc p) here not_found =
        ap process_body
        (get-put-other (put k.processes pid (kernel.Living a)) child kernel.Gone p (isnt_number child p not_found)
        ∙ get-put-other k.processes pid (kernel.Living a) p (λ (e : p ≡ pid). here (ap Proc e)))
