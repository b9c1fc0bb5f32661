-- What a call leaves of the body that it is carried out on, its reply, if it needn't wait, and whom it wakes
-- (POSIX.1-2017: kill, sigaction, sigprocmask, sigpending, waitpid, msgsnd, msgrcv, msgctl, semop, semctl).
use Rattle.std.specs.Prelude.{ℕ, Bool, List, [], if◌then◌else◌, Option, Some, None}
use Rattle.pico_base.specs.declared.call.Call.{Call}
use Rattle.pico_base.specs.declared.call.Call.TheVariants as calls
use Rattle.pico_base.specs.declared.numbers.Name.{Name}
use Rattle.pico_base.specs.declared.numbers.Name.TheVariants.{Proc, Msg, Sem}
use Rattle.pico_base.specs.declared.reply.Errno.TheVariants.{Einval, Esrch, Echild}
use Rattle.pico_base.specs.declared.reply.Reply.{Reply}
use Rattle.pico_base.specs.declared.reply.Reply.TheVariants as replies
use Rattle.kernel_model.specs.Row.{Row, Waited, Found, NotYet, NoChild, wait, without_ended}
use Rattle.waiting_model.specs.declared.callers.Waiting.{Waiting}
use Rattle.waiting_model.specs.declared.callers.Wake.{Wake}
use Rattle.waiting_model.specs.Waiters.{Awaited, Carried, wakes_at_removal}
use Rattle.waiting_model.specs.Queue.{carry_out_on_queue}
use Rattle.waiting_model.specs.SemaphoreSet.{carry_out_on_set}
use Rattle.node_model.specs.Bodies.{Body, Living, Ended, AQueue, ASet, Removed}
use Rattle.node_model.specs.Carrying.{Done, is_own, is_removal, on_row}

-- what is left, the reply, none where the caller has to wait, and those who are woken, in order
pub record Applied (V : Type 0) : Type 0 where
  pub left : V
  pub own : Option Reply
  pub wakes : List Wake

abbrev pub applied : {V : Type 0} → V → Reply → Applied V
applied v reply = record { left = v; own = Some reply; wakes = [] }

-- the caller has to wait, which changes nothing
abbrev pub waits : {V : Type 0} → V → Applied V
waits v = record { left = v; own = None; wakes = [] }

-- ---- a queue, and a set

abbrev pub on_object : {V : Type 0} → (Awaited V → Body) → Carried V → Applied Body
on_object put c = record { left = put c.object; own = c.own; wakes = c.wakes }

-- whoever waits at what is removed is woken
abbrev pub removed : List Wake → Applied Body
removed wakes = record { left = Removed; own = Some (replies.Num 0); wakes = wakes }

-- ---- a living process's row

-- what a call does at once
abbrev pub at_once_on : {V : Type 0} → Done V → Applied V
at_once_on d = applied d.left d.reply

-- where only living children match, the caller has to wait, or has the reply 0 with WNOHANG
abbrev pub reap : Row → Bool → Waited → Applied Row
reap row nohang (Found child ending) =
    applied (record row { family = without_ended child row.family }) (replies.Child child ending)
reap row nohang NotYet = if nohang then applied row (replies.Num 0) else waits row
reap row nohang NoChild = applied row (replies.Fail Echild)

-- only `waitpid` may have to wait
abbrev pub on_own : Row → ℕ → Call → Applied Row
on_own row pid (calls.WaitPid child nohang) = reap row nohang (wait row.family child)
on_own row pid call = at_once_on (on_row row pid call)

-- ---- a body

abbrev pub in_whole : {V : Type 0} → (V → Body) → Applied V → Applied Body
in_whole put d = record { left = put d.left; own = d.own; wakes = d.wakes }

-- `who` is the caller as it would wait. A process that has ended and isn't gone can be sent a signal, which does
-- nothing. It makes no call of its own.
abbrev pub on_whole : Name → Body → Waiting → Applied Body
on_whole (Proc pid) (Living row) who = in_whole Living (on_own row who.pid who.call)
on_whole (Proc pid) (Ended ending) who =
    applied (Ended ending) (if is_own who.pid who.call then replies.Fail Esrch else replies.Num 0)
on_whole (Proc pid) body who = applied body (replies.Fail Esrch)
on_whole (Msg id) (AQueue queue) who =
    if is_removal who.call then removed (wakes_at_removal queue) else on_object AQueue (carry_out_on_queue queue who)
on_whole (Msg id) body who = applied body (replies.Fail Einval)
on_whole (Sem id) (ASet set) who =
    if is_removal who.call then removed (wakes_at_removal set) else on_object ASet (carry_out_on_set set who)
on_whole (Sem id) body who = applied body (replies.Fail Einval)
