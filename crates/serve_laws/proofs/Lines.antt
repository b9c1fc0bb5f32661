-- What one call does at once on a queue or a set, against what a try of it gives.
use Rattle.std.proofs.Common.{◌≡◌, ◌∙◌, ℕ, Bool, true, false, List, Some, None, Result, Ok, Err, refl, ap}
use Rattle.std.specs.Prelude.{if◌then◌else◌}
use Rattle.pico_base.specs.declared.call.Call.{Call}
use Rattle.pico_base.specs.declared.call.Call.TheVariants as calls
use Rattle.pico_base.specs.declared.call.SemStep.{SemStep}
use Rattle.pico_base.specs.declared.numbers.Name.{Name}
use Rattle.pico_base.specs.declared.numbers.Name.TheVariants.{Msg, Sem}
use Rattle.pico_base.specs.declared.reply.Errno.{Errno}
use Rattle.pico_base.specs.declared.reply.Errno.TheVariants.{Eagain, Enomsg}
use Rattle.pico_base.specs.declared.reply.Reply.{Reply}
use Rattle.pico_base.specs.declared.reply.Reply.TheVariants as replies
use Rattle.kernel_model.specs.Queue.{Queue, Received, receive, send, set_qbytes}
use Rattle.kernel_model.specs.SemaphoreSet.{SemaphoreSet, last_at, op, set_all, set_value, value_at}
use Rattle.waiting_model.specs.Calls.{may_park}
use Rattle.waiting_model.specs.Linear.{at_once, counts_waiters}
use Rattle.waiting_model.specs.Queue.{try_queue, try_receive, try_send}
use Rattle.waiting_model.specs.SemaphoreSet.{try_set}
use Rattle.waiting_model.specs.Waiters.{Attempt, changed, looked_up, unawaited}
use Rattle.node_model.specs.Bodies.{Body, AQueue, ASet, Removed}
use Rattle.node_model.specs.Carrying.{change, done, in_body, is_removal, look, on_body, on_queue, on_set, take_message}
use Rattle.serve_laws.specs.Served.{DoesLine, Does, line}
use Rattle.serve_laws.proofs.AtOnce.{op-at-once}

-- ---- what a try gives is what the call does at once

some-same : {A : Type 0} (x y : A) → Some x ≡ Some y → x ≡ y
some-same x y h = cc

as-done : {T : Type 0} (x a : Attempt T) → Some x ≡ Some a → done x.state x.reply ≡ done a.state a.reply
as-done x a h = ap (λ (y : Attempt _). done y.state y.reply) (some-same x a h)

changes : {T : Type 0} (state : T) (r : Result T Errno) (a : Attempt T) → Some (changed state r) ≡ Some a
    → change state r ≡ done a.state a.reply
changes state (Ok next) a h = as-done _ a h
changes state (Err e) a h = as-done _ a h

looks : {T : Type 0} (state : T) (r : Result ℕ Errno) (a : Attempt T) → Some (looked_up state r) ≡ Some a
    → look state r ≡ done a.state a.reply
looks state (Ok n) a h = as-done _ a h
looks state (Err e) a h = as-done _ a h

sends : (q : Queue) (nowait : Bool) (r : Result Queue Errno) (a : Attempt Queue) → try_send q nowait r ≡ Some a
    → change q r ≡ done a.state a.reply
sends q nowait (Ok next) a h = as-done _ a h
sends q true (Err Eagain) a h = as-done _ a h
sends q false (Err Eagain) a h = absurd (cc)
sends q nowait (Err e) a h = as-done _ a h

receives : (q : Queue) (nowait : Bool) (r : Result Received Errno) (a : Attempt Queue)
    → try_receive q nowait r ≡ Some a → take_message q r ≡ done a.state a.reply
receives q nowait (Ok got) a h = as-done _ a h
receives q true (Err Enomsg) a h = as-done _ a h
receives q false (Err Enomsg) a h = absurd (cc)
receives q nowait (Err e) a h = as-done _ a h

-- at a queue
pub queue-does : (q : Queue) (pid : ℕ) (call : Call) (a : Attempt Queue) → try_queue q pid call ≡ Some a
    → on_queue q pid (at_once call) ≡ done a.state a.reply
queue-does q pid (calls.MsgSnd id class text nowait) a h = sends q nowait (send q pid class text) a h
queue-does q pid (calls.MsgRcv id class size noerror nowait) a h =
    receives q nowait (receive q pid class size noerror) a h
queue-does q pid (calls.MsgStat id) a h = as-done _ a h
queue-does q pid (calls.MsgSet id qbytes) a h = changes q (set_qbytes q qbytes) a h
queue-does q pid call a h = as-done _ a h

operates : (s : SemaphoreSet) (pid : ℕ) (steps : List SemStep) (b : Bool) (a : Attempt SemaphoreSet)
    → (if b then None else Some (changed s (op s pid steps))) ≡ Some a
    → change s (op s pid steps) ≡ done a.state a.reply
operates s pid steps true a h = absurd (cc)
operates s pid steps false a h = changes s (op s pid steps) a h

-- and at a set, but for a count of those who wait
pub set-does : (s : SemaphoreSet) (pid : ℕ) (call : Call) (a : Attempt SemaphoreSet) → counts_waiters call ≡ false
    → try_set s pid call ≡ Some a → on_set s pid (at_once call) ≡ done a.state a.reply
set-does s pid (calls.SemOp id steps) a c h =
    ap (change s) (op-at-once s pid steps) ∙ operates s pid steps _ a h
set-does s pid (calls.SemGetVal id num) a c h = looks s (value_at s num) a h
set-does s pid (calls.SemGetPid id num) a c h = looks s (last_at s num) a h
set-does s pid (calls.SemGetNcnt id num) a c h = absurd (cc)
set-does s pid (calls.SemGetZcnt id num) a c h = absurd (cc)
set-does s pid (calls.SemSetVal id num value) a c h = changes s (set_value s num value) a h
set-does s pid (calls.SemGetAll id) a c h = as-done _ a h
set-does s pid (calls.SemSetAll id values) a c h = changes s (set_all s values) a h
set-does s pid call a c h = as-done _ a h

-- ---- a line on a body

-- a removal is one at once
pub removal-at-once : (call : Call) → is_removal (at_once call) ≡ is_removal call
removal-at-once (calls.WaitPid child nohang) = refl
removal-at-once (calls.MsgSnd id class text nowait) = refl
removal-at-once (calls.MsgRcv id class size noerror nowait) = refl
removal-at-once (calls.SemOp id steps) = refl
removal-at-once call = refl

-- a call that waits is no removal and counts nobody
pub parked-removes-not : (call : Call) → may_park call ≡ true → is_removal call ≡ false
parked-removes-not (calls.MsgRmid id) h = absurd (cc)
parked-removes-not (calls.SemRmid id) h = absurd (cc)
parked-removes-not call h = refl

-- nor does it count those who wait
pub parked-counts-not : (call : Call) → may_park call ≡ true → counts_waiters call ≡ false
parked-counts-not (calls.SemGetNcnt id num) h = absurd (cc)
parked-counts-not (calls.SemGetZcnt id num) h = absurd (cc)
parked-counts-not call h = refl

-- a queue and a set at which nobody waits
abbrev pub a_queue : Queue → Body
a_queue q = AQueue (unawaited q)

-- and such a set
abbrev pub a_set : SemaphoreSet → Body
a_set s = ASet (unawaited s)

-- by what the call leaves of the name's part
pub does : (name : Name) (before after : Body) (pid : ℕ) (call : Call) (reply : Reply)
    → on_body name before pid (at_once call) ≡ done after reply → DoesLine name before (line pid call reply) after
does name before after pid call reply is = Does (done after reply) is refl refl

-- on a queue, and on a set
pub queue-line : (id : ℕ) (q next : Queue) (pid : ℕ) (call : Call) (reply : Reply) → is_removal call ≡ false
    → on_queue q pid (at_once call) ≡ done next reply
    → DoesLine (Msg id) (a_queue q) (line pid call reply) (a_queue next)
queue-line id q next pid call reply stays is =
    does (Msg id) (a_queue q) (a_queue next) pid call reply
    (ap (λ (b : Bool). if b then done Removed (replies.Num 0) else in_body a_queue (on_queue q pid (at_once call)))
    (removal-at-once call ∙ stays)
    ∙ ap (in_body a_queue) is)

-- what is done at once on a set is its line's
pub set-line : (id : ℕ) (s next : SemaphoreSet) (pid : ℕ) (call : Call) (reply : Reply) → is_removal call ≡ false
    → on_set s pid (at_once call) ≡ done next reply
    → DoesLine (Sem id) (a_set s) (line pid call reply) (a_set next)
set-line id s next pid call reply stays is =
    does (Sem id) (a_set s) (a_set next) pid call reply
    (ap (λ (b : Bool). if b then done Removed (replies.Num 0) else in_body a_set (on_set s pid (at_once call)))
    (removal-at-once call ∙ stays)
    ∙ ap (in_body a_set) is)
