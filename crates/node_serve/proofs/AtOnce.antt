-- A call that needn't wait, where nobody waits, is the same whether or not callers may wait.
use Rattle.std.proofs.Common.{◌≡◌, ◌∙◌, ◌≤◌, ℕ, zero, suc, length, arith, Bool, true, false, not, ◌&&◌, ◌||◌, List, [], ◌∷◌, Option, Some, None, Result, Ok, Err, refl, sym, ap, slice_get}
use Rattle.std.specs.Prelude.{if◌then◌else◌}
use Rattle.std.specs.List.{list_any}
use Rattle.pico_base.specs.declared.call.Call.{Call}
use Rattle.pico_base.specs.declared.call.Call.TheVariants as calls
use Rattle.pico_base.specs.declared.call.SemStep.{SemStep}
use Rattle.pico_base.specs.declared.reply.Errno.{Errno}
use Rattle.pico_base.specs.declared.reply.Errno.TheVariants.{Eagain, Enomsg}
use Rattle.pico_base.specs.declared.numbers.Name.{Name}
use Rattle.pico_base.specs.declared.numbers.Name.TheVariants.{Proc, Msg, Sem}
use Rattle.pico_base.specs.declared.reply.Reply.{Reply}
use Rattle.pico_base.specs.declared.reply.Reply.TheVariants.{Num, Fail}
use Rattle.number_maps.specs.Maps.{get}
use Rattle.kernel_model.specs.Kernel.{Kernel}
use Rattle.kernel_model.specs.Queue.{Queue, Received, send, receive, set_qbytes}
use Rattle.kernel_model.specs.SemaphoreSet.{Semaphore, SemaphoreSet, Tried, Done as Carried_, StopsAt, OutOfRange, op, last_at, read_semaphore, set_all, set_value, try_ops, value_at, values_of, waiting_at}
use Rattle.kernel_model.specs.Row.{Row, Waited, Found, NotYet, NoChild, wait}
use Rattle.kernel_model.specs.Waiting.{is_waiting, may_wait}
use Rattle.waiting_model.specs.declared.callers.Applied.{Applied as Made}
use Rattle.waiting_model.specs.declared.callers.Waiting.{Waiting}
use Rattle.waiting_model.specs.Calls.{may_park}
use Rattle.waiting_model.specs.Waiters.{Attempt, Awaited, Carried, Try, attempt, awaited, carry_out, carry_out_by, changed, looked_up, unawaited, wakes_at_removal}
use Rattle.waiting_model.specs.Queue.{carry_out_on_queue, try_queue, try_receive, try_send}
use Rattle.waiting_model.specs.SemaphoreSet.{are_tried, carry_out_on_set, count_reply, stop_in, stop_of, try_op, try_set, waits_for}
use Rattle.waiter_fields.specs.Settling.{IsCarried}
use Rattle.sysv_sem.specs.Calls.{carried_to}
use Rattle.node_model.specs.Awaiting as awaiting
use Rattle.node_model.specs.Awaiting.{Applied, at_once_on, in_whole, on_object, on_own, on_whole, removed}
use Rattle.node_model.specs.Bodies as model
use Rattle.node_model.specs.Bodies.{body_in, queue_body, set_body}
use Rattle.node_model.specs.Carrying.{Done, change, done, in_body, is_removal, is_served, look, makes_or_ends, on_body, on_queue, on_row, on_set, reap, take_message}

-- what a call that needn't wait comes to, by either definition
abbrev tried_as : {V : Type 0} → Done V → Option (Attempt V)
tried_as d = Some (attempt d.left d.reply)

abbrev replied_alone : {V : Type 0} → Awaited V → Reply → Carried V
replied_alone object reply = record { object = object; own = Some reply; wakes = [] }

changed-as : {V : Type 0} (v : V) (r : Result V Errno) → Some (changed v r) ≡ tried_as (change v r)
changed-as v (Ok w) = refl
changed-as v (Err e) = refl

looked-as : {V : Type 0} (v : V) (r : Result ℕ Errno) → Some (looked_up v r) ≡ tried_as (look v r)
looked-as v (Ok n) = refl
looked-as v (Err e) = refl

-- where none is counted nobody waits
pub nobody-there : (ws : List Waiting) → length ws ≤ 0 → ws ≡ []
nobody-there [] few = refl
nobody-there (w ∷ ws) few = absurd (omega arith)

-- who waits in this call
abbrev waiter_in : ℕ → ℕ → ℕ → Call → Waiting
waiter_in caller ticket pid call = record { caller = caller; ticket = ticket; pid = pid; call = call }

-- a try that gives this wakes nobody where nobody waits
carried-as : {V : Type 0} (try : Try V) (state : V) (who : Waiting) (d : Done V)
    → try state who.pid who.call ≡ tried_as d
    → carry_out try (unawaited state) who ≡ replied_alone (unawaited d.left) d.reply
carried-as try state who d is = ap (carry_out_by try (unawaited state) who) is

-- ---- queues

sent : (q : Queue) (r : Result Queue Errno) → try_send q true r ≡ tried_as (change q r)
sent q (Ok next) = refl
sent q (Err Eagain) = refl
sent q (Err e) = refl

received : (q : Queue) (r : Result Received Errno) → try_receive q true r ≡ tried_as (take_message q r)
received q (Ok r) = refl
received q (Err Enomsg) = refl
received q (Err e) = refl

queue-tried : (q : Queue) (pid : ℕ) (call : Call) → may_park call ≡ false
    → try_queue q pid call ≡ tried_as (on_queue q pid call)
queue-tried q pid (calls.MsgSnd id class text true) h = sent q (send q pid class text)
queue-tried q pid (calls.MsgSnd id class text false) h = absurd (cc)
queue-tried q pid (calls.MsgRcv id class size noerror true) h = received q (receive q pid class size noerror)
queue-tried q pid (calls.MsgRcv id class size noerror false) h = absurd (cc)
queue-tried q pid (calls.MsgStat id) h = refl
queue-tried q pid (calls.MsgSet id qbytes) h = changed-as q (set_qbytes q qbytes)
queue-tried q pid call h = refl

-- a call on a queue
pub queue-at-once : (q new : Awaited Queue) (who : Waiting) (reply : Reply) → q.waiters ≡ [] → new.waiters ≡ []
    → may_park who.call ≡ false → on_queue q.state who.pid who.call ≡ done new.state reply
    → carry_out_on_queue q who ≡ replied_alone new reply
queue-at-once q new who reply nobody still go does =
    ap (λ (ws : List Waiting). carry_out_on_queue (awaited q.state ws) who) nobody
    ∙ carried-as try_queue q.state who (on_queue q.state who.pid who.call) (queue-tried q.state who.pid who.call go)
    ∙ ap (λ (d : Done Queue). replied_alone (unawaited d.left) d.reply) does
    ∙ ap (λ (ws : List Waiting). replied_alone (awaited new.state ws) reply) (sym still)

-- a call that parks or wakes others, as the queue says what it comes to
pub carried-is : {V : Type 0} (c : Carried V) (new : Awaited V) (applied : Made) → IsCarried c new applied
    → c ≡ carried_to new applied
carried-is c new applied is =
    ap (λ o. record c { object = o }) is.object
    ∙ ap (λ own. record { object = new; own = own; wakes = c.wakes }) is.own
    ∙ ap (λ wakes. record { object = new; own = applied.own; wakes = wakes }) is.wakes

-- ---- sets

not-any : (test : SemStep → Bool) (steps : List SemStep) (i : ℕ) (step : SemStep) → list_any test steps ≡ false
    → slice_get steps i ≡ Some step → test step ≡ false
not-any test [] i step none there = absurd (cc)
not-any test (s ∷ steps) zero step none there =
    let same : s ≡ step = cc in
    ap test (sym same) ∙ first (test s) (list_any test steps) none
  where
    first : (a b : Bool) → (a || b) ≡ false → a ≡ false
    first true b h = h
    first false b h = refl
not-any test (s ∷ steps) (suc i) step none there =
    not-any test steps i step (later (test s) (list_any test steps) none) there
  where
    later : (a b : Bool) → (a || b) ≡ false → b ≡ false
    later true b h = absurd (cc)
    later false b h = h

stopped-at : (steps : List SemStep) (o : Option SemStep) → ((step : SemStep) → o ≡ Some step → may_wait step ≡ false)
    → waits_for o ≡ false
stopped-at steps None none = refl
stopped-at steps (Some step) none = none step refl

no-wait : (steps : List SemStep) (t : Tried) → list_any may_wait steps ≡ false → waits_for (stop_in steps t) ≡ false
no-wait steps (Carried_ values) none = refl
no-wait steps (StopsAt i) none =
    stopped-at steps (slice_get steps i) (λ step there. not-any may_wait steps i step none there)
no-wait steps OutOfRange none = refl

both-off : (a b : Bool) → b ≡ false → (a && b) ≡ false
both-off true b h = h
both-off false b h = refl

op-tried : (s : SemaphoreSet) (pid : ℕ) (steps : List SemStep) → list_any may_wait steps ≡ false
    → try_op s pid steps ≡ tried_as (change s (op s pid steps))
op-tried s pid steps none =
    let off : (are_tried s steps && waits_for (stop_of s steps)) ≡ false =
    both-off (are_tried s steps) (waits_for (stop_of s steps))
    (no-wait steps (try_ops (values_of s.semaphores) steps) none)
    in rw off (changed-as s (op s pid steps))

-- nobody is counted where nobody waits
counted-none : (s : SemaphoreSet) (o : Option Semaphore)
    → replied_alone (unawaited s) (count_reply (read_semaphore o (λ _. 0)))
    ≡ replied_alone (unawaited (look s (read_semaphore o (λ _. 0))).left) (look s (read_semaphore o (λ _. 0))).reply
counted-none s None = refl
counted-none s (Some semaphore) = refl

-- by a try, of a call that doesn't count those who wait
by-try : (s : SemaphoreSet) (caller ticket pid : ℕ) (call : Call) → try_set s pid call ≡ tried_as (on_set s pid call)
    → carry_out try_set (unawaited s) (waiter_in caller ticket pid call)
    ≡ replied_alone (unawaited (on_set s pid call).left) (on_set s pid call).reply
by-try s caller ticket pid call is = carried-as try_set s (waiter_in caller ticket pid call) (on_set s pid call) is

set-carried : (s : SemaphoreSet) (caller ticket pid : ℕ) (call : Call) → may_park call ≡ false
    → carry_out_on_set (unawaited s) (waiter_in caller ticket pid call)
    ≡ replied_alone (unawaited (on_set s pid call).left) (on_set s pid call).reply
set-carried s caller ticket pid (calls.SemOp id steps) go =
    by-try s caller ticket pid (calls.SemOp id steps) (op-tried s pid steps go)
set-carried s caller ticket pid (calls.SemGetNcnt id num) go = counted-none s (slice_get s.semaphores num)
set-carried s caller ticket pid (calls.SemGetZcnt id num) go = counted-none s (slice_get s.semaphores num)
set-carried s caller ticket pid (calls.SemGetVal id num) go =
    by-try s caller ticket pid (calls.SemGetVal id num) (looked-as s (value_at s num))
set-carried s caller ticket pid (calls.SemGetPid id num) go =
    by-try s caller ticket pid (calls.SemGetPid id num) (looked-as s (last_at s num))
set-carried s caller ticket pid (calls.SemSetVal id num value) go =
    by-try s caller ticket pid (calls.SemSetVal id num value) (changed-as s (set_value s num value))
set-carried s caller ticket pid (calls.SemSetAll id values) go =
    by-try s caller ticket pid (calls.SemSetAll id values) (changed-as s (set_all s values))
set-carried s caller ticket pid call go = by-try s caller ticket pid call refl

-- a call on a set
pub set-at-once : (s new : Awaited SemaphoreSet) (who : Waiting) (reply : Reply) → s.waiters ≡ [] → new.waiters ≡ []
    → may_park who.call ≡ false → on_set s.state who.pid who.call ≡ done new.state reply
    → carry_out_on_set s who ≡ replied_alone new reply
set-at-once s new who reply nobody still go does =
    ap (λ (ws : List Waiting). carry_out_on_set (awaited s.state ws) who) nobody
    ∙ set-carried s.state who.caller who.ticket who.pid who.call go
    ∙ ap (λ (d : Done SemaphoreSet). replied_alone (unawaited d.left) d.reply) does
    ∙ ap (λ (ws : List Waiting). replied_alone (awaited new.state ws) reply) (sym still)

-- ---- a call whose try gives a reply, also one that may have to wait

goes-on : {V : Type 0} (try : Try V) (object new : Awaited V) (who : Waiting) (reply : Reply) → object.waiters ≡ []
    → new.waiters ≡ [] → try object.state who.pid who.call ≡ Some (attempt new.state reply)
    → carry_out try object who ≡ replied_alone new reply
goes-on {V} try object new who reply nobody still gives =
    ap (λ (ws : List Waiting). carry_out try (awaited object.state ws) who) nobody
    ∙ carried-as try object.state who (record { left = new.state; reply = reply }) gives
    ∙ ap (λ (ws : List Waiting). replied_alone (awaited new.state ws) reply) (sym still)

-- a send or a receive that goes on where nobody waits
pub queue-goes-on : (q new : Awaited Queue) (who : Waiting) (reply : Reply) → q.waiters ≡ [] → new.waiters ≡ []
    → try_queue q.state who.pid who.call ≡ Some (attempt new.state reply)
    → carry_out_on_queue q who ≡ replied_alone new reply
queue-goes-on q new who reply nobody still gives = goes-on try_queue q new who reply nobody still gives

-- a semop that goes on where nobody waits
pub operates : (s new : Awaited SemaphoreSet) (caller ticket pid id : ℕ) (steps : List SemStep) (reply : Reply)
    → s.waiters ≡ [] → new.waiters ≡ [] → try_op s.state pid steps ≡ Some (attempt new.state reply)
    → carry_out_on_set s (waiter_in caller ticket pid (calls.SemOp id steps)) ≡ replied_alone new reply
operates s new caller ticket pid id steps reply nobody still gives =
    goes-on try_set s new (waiter_in caller ticket pid (calls.SemOp id steps)) reply nobody still gives

-- operations of which none may wait
pub operated : (s new : SemaphoreSet) (pid : ℕ) (steps : List SemStep) → list_any may_wait steps ≡ false
    → op s pid steps ≡ Ok new → try_op s pid steps ≡ Some (attempt new (Num 0))
operated s new pid steps none does =
    op-tried s pid steps none ∙ ap (λ (r : Result SemaphoreSet Errno). tried_as (change s r)) does

-- operations of which none may wait, and which are refused
pub refuses-to-operate : (s : SemaphoreSet) (pid : ℕ) (steps : List SemStep) (e : Errno)
    → list_any may_wait steps ≡ false → op s pid steps ≡ Err e → try_op s pid steps ≡ Some (attempt s (Fail e))
refuses-to-operate s pid steps e none does =
    op-tried s pid steps none ∙ ap (λ (r : Result SemaphoreSet Errno). tried_as (change s r)) does

-- ---- a body of a kernel in which nobody waits

-- the caller has this reply, and nobody is woken
abbrev pub alone_as : Done model.Body → Applied model.Body
alone_as d = record { left = d.left; own = Some d.reply; wakes = [] }

reaped-at-once : (row : Row) (w : Waited) → awaiting.reap row true w ≡ at_once_on (reap row w)
reaped-at-once row (Found child ending) = refl
reaped-at-once row NotYet = refl
reaped-at-once row NoChild = refl

own-at-once : (row : Row) (pid : ℕ) (call : Call) → is_served call ≡ true
    → on_own row pid call ≡ at_once_on (on_row row pid call)
own-at-once row pid (calls.WaitPid child true) served = reaped-at-once row (wait row.family child)
own-at-once row pid (calls.WaitPid child false) served = absurd (cc)
own-at-once row pid call served = refl

process-at-once : (p : ℕ) (b : model.Body) (who : Waiting) → is_served who.call ≡ true
    → on_whole (Proc p) b who ≡ alone_as (on_body (Proc p) b who.pid who.call)
process-at-once p (model.Living row) who served =
    ap (in_whole model.Living) (own-at-once row who.pid who.call served)
process-at-once p (model.Ended ending) who served = refl
process-at-once p b who served = refl

served-goes : (call : Call) → is_served call ≡ true → may_park call ≡ false
served-goes call served = by (makes_or_ends call) (is_waiting call) served refl
  where
    by : (makes waits : Bool) → (not makes && not waits) ≡ true → is_waiting call ≡ waits → may_park call ≡ false
    by true waits h is = absurd (cc)
    by false true h is = absurd (cc)
    by false false h is = no-park call is
      where
        no-park : (c : Call) → is_waiting c ≡ false → may_park c ≡ false
        no-park (calls.Withdraw name) h = refl
        no-park c h = h

queue-alone : (id : ℕ) (o : Option Queue) (who : Waiting) → is_served who.call ≡ true
    → on_whole (Msg id) (queue_body o) who ≡ alone_as (on_body (Msg id) (queue_body o) who.pid who.call)
queue-alone id None who served = refl
queue-alone id (Some q) who served = by (is_removal who.call)
  where
    by : (b : Bool)
        → (if b then removed (wakes_at_removal (unawaited q)) else on_object model.AQueue
        (carry_out_on_queue (unawaited q) who))
        ≡ alone_as (if b
        then done model.Removed (Num 0)
        else in_body (λ s. model.AQueue (unawaited s)) (on_queue q who.pid who.call))
    by true = refl
    by false =
        ap (on_object model.AQueue)
        (carried-as try_queue q who (on_queue q who.pid who.call)
        (queue-tried q who.pid who.call (served-goes who.call served)))

set-alone : (id : ℕ) (o : Option SemaphoreSet) (who : Waiting) → is_served who.call ≡ true
    → on_whole (Sem id) (set_body o) who ≡ alone_as (on_body (Sem id) (set_body o) who.pid who.call)
set-alone id None who served = refl
set-alone id (Some s) who served = by (is_removal who.call)
  where
    by : (b : Bool)
        → (if b then removed (wakes_at_removal (unawaited s)) else on_object model.ASet
        (carry_out_on_set (unawaited s) who))
        ≡ alone_as (if b
        then done model.Removed (Num 0)
        else in_body (λ t. model.ASet (unawaited t)) (on_set s who.pid who.call))
    by true = refl
    by false =
        ap (on_object model.ASet)
        (set-carried s who.caller who.ticket who.pid who.call (served-goes who.call served))

-- a call that is served at once does on the kernel's part for a name what it does where nobody can wait
pub at-once-in : (k : Kernel) (name : Name) (who : Waiting) → is_served who.call ≡ true
    → on_whole name (body_in k name) who ≡ alone_as (on_body name (body_in k name) who.pid who.call)
at-once-in k (Proc p) who served = process-at-once p (body_in k (Proc p)) who served
at-once-in k (Msg id) who served = queue-alone id (get k.queues id) who served
at-once-in k (Sem id) who served = set-alone id (get k.sets id) who served
