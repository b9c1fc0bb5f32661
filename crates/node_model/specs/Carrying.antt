-- What a call leaves of the body that it is carried out on at once, and its reply, where nobody waits (POSIX.1-2017:
-- kill, sigaction, sigprocmask, sigpending, waitpid, msgsnd, msgrcv, msgctl, semop, semctl).
use Rattle.std.specs.Prelude.{ℕ, Bool, true, false, not, ◌&&◌, if◌then◌else◌, Result, Ok, Err}
use Rattle.pico_base.specs.declared.call.Call.{Call}
use Rattle.pico_base.specs.declared.call.Call.TheVariants as calls
use Rattle.pico_base.specs.declared.call.Home.{Home}
use Rattle.pico_base.specs.declared.call.Home.TheVariants as homes
use Rattle.pico_base.specs.declared.numbers.Name.{Name}
use Rattle.pico_base.specs.declared.numbers.Name.TheVariants.{Proc, Msg, Sem}
use Rattle.pico_base.specs.declared.reply.Errno.{Errno}
use Rattle.pico_base.specs.declared.reply.Errno.TheVariants.{Einval, Esrch, Echild}
use Rattle.pico_base.specs.declared.reply.Reply.{Reply}
use Rattle.pico_base.specs.declared.reply.Reply.TheVariants as replies
use Rattle.pico_base.specs.declared.signal.SigArg.{SigArg}
use Rattle.pico_base.specs.declared.signal.SigArg.TheVariants.{Zero, Is, Bad}
use Rattle.pico_base.specs.Home.{home_of}
use Rattle.pico_base.specs.Signal.{at}
use Rattle.kernel_model.specs.Signals.{Signals, act_on, with_mask, raise}
use Rattle.kernel_model.specs.Row.{Row, Waited, Found, NotYet, NoChild, wait, without_ended}
use Rattle.kernel_model.specs.Queue.{Queue, Received, send, receive, set_qbytes, stat}
use Rattle.kernel_model.specs.SemaphoreSet.{SemaphoreSet, op, value_at, last_at, waiting_at, set_value, set_all, values_of}
use Rattle.kernel_model.specs.Waiting.{is_waiting}
use Rattle.waiting_model.specs.Waiters.{unawaited}
use Rattle.node_model.specs.Bodies.{Body, Living, Ended, AQueue, ASet, Removed}

-- what is left, and the reply
pub record Done (V : Type 0) : Type 0 where
  pub left : V
  pub reply : Reply

abbrev pub done : {V : Type 0} → V → Reply → Done V
done v reply = record { left = v; reply = reply }

-- a change, or a refusal that changes nothing
abbrev pub change : {V : Type 0} → V → Result V Errno → Done V
change v (Ok w) = done w (replies.Num 0)
change v (Err e) = done v (replies.Fail e)

-- a look that changes nothing
abbrev pub look : {V : Type 0} → V → Result ℕ Errno → Done V
look v (Ok n) = done v (replies.Num n)
look v (Err e) = done v (replies.Fail e)

-- ---- a message queue

abbrev pub take_message : Queue → Result Received Errno → Done Queue
take_message q (Ok r) = done r.queue (replies.Message r.message.class r.message.text)
take_message q (Err e) = done q (replies.Fail e)

abbrev pub on_queue : Queue → ℕ → Call → Done Queue
on_queue q pid (calls.MsgSnd id class text nowait) = change q (send q pid class text)
on_queue q pid (calls.MsgRcv id class size noerror nowait) = take_message q (receive q pid class size noerror)
on_queue q pid (calls.MsgStat id) = done q (stat q)
on_queue q pid (calls.MsgSet id qbytes) = change q (set_qbytes q qbytes)
on_queue q pid call = done q (replies.Fail Einval)

-- ---- a semaphore set

abbrev pub on_set : SemaphoreSet → ℕ → Call → Done SemaphoreSet
on_set s pid (calls.SemOp id steps) = change s (op s pid steps)
on_set s pid (calls.SemGetVal id num) = look s (value_at s num)
on_set s pid (calls.SemGetPid id num) = look s (last_at s num)
on_set s pid (calls.SemGetNcnt id num) = look s (waiting_at s num)
on_set s pid (calls.SemGetZcnt id num) = look s (waiting_at s num)
on_set s pid (calls.SemSetVal id num value) = change s (set_value s num value)
on_set s pid (calls.SemGetAll id) = done s (replies.All (values_of s.semaphores))
on_set s pid (calls.SemSetAll id values) = change s (set_all s values)
on_set s pid call = done s (replies.Fail Einval)

-- ---- a living process's row

abbrev pub with_signals : Row → Signals → Row
with_signals row s = record row { signals = s }

abbrev pub signal : Row → SigArg → Done Row
signal row Zero = done row (replies.Num 0)
signal row Bad = done row (replies.Fail Einval)
signal row (Is g) = done (with_signals row (raise row.signals g)) (replies.Num 0)

abbrev pub act : Row → Result Signals Errno → Done Row
act row (Ok s) = done (with_signals row s) (replies.Num 0)
act row (Err e) = done row (replies.Fail e)

abbrev pub reap : Row → Waited → Done Row
reap row (Found child ending) =
    done (record row { family = without_ended child row.family }) (replies.Child child ending)
reap row NotYet = done row (replies.Num 0)
reap row NoChild = done row (replies.Fail Echild)

abbrev pub on_row : Row → ℕ → Call → Done Row
on_row row pid calls.GetPid = done row (replies.Num pid)
on_row row pid (calls.Kill target sig) = signal row sig
on_row row pid (calls.SigAction sig action) = act row (act_on row.signals sig action)
on_row row pid (calls.SigProcMask how set) =
    done (with_signals row (with_mask row.signals how set)) (replies.Bits row.signals.mask)
on_row row pid calls.SigPending = done row (replies.Bits row.signals.pending)
on_row row pid (calls.Handled sig) = done row (replies.Num (at row.signals.handled sig))
on_row row pid (calls.WaitPid child nohang) = reap row (wait row.family child)
on_row row pid call = done row (replies.Fail Einval)

-- ---- a body

abbrev pub is_own_home : Home → Bool
is_own_home homes.Own = true
is_own_home _ = false

abbrev pub is_own : ℕ → Call → Bool
is_own caller call = is_own_home (home_of caller call)

abbrev pub is_removal : Call → Bool
is_removal (calls.MsgRmid id) = true
is_removal (calls.SemRmid id) = true
is_removal _ = false

abbrev pub in_body : {V : Type 0} → (V → Body) → Done V → Done Body
in_body put d = done (put d.left) d.reply

-- A process that has ended and isn't gone can be sent a signal, which does nothing. It makes no call of its own.
abbrev pub on_body : Name → Body → ℕ → Call → Done Body
on_body (Proc pid) (Living row) caller call = in_body Living (on_row row caller call)
on_body (Proc pid) (Ended ending) caller call =
    done (Ended ending) (if is_own caller call then replies.Fail Esrch else replies.Num 0)
on_body (Proc pid) body caller call = done body (replies.Fail Esrch)
on_body (Msg id) (AQueue queue) caller call =
    if is_removal call
    then done Removed (replies.Num 0)
    else in_body (λ q. AQueue (unawaited q)) (on_queue queue.state caller call)
on_body (Msg id) body caller call = done body (replies.Fail Einval)
on_body (Sem id) (ASet set) caller call =
    if is_removal call
    then done Removed (replies.Num 0)
    else in_body (λ s. ASet (unawaited s)) (on_set set.state caller call)
on_body (Sem id) body caller call = done body (replies.Fail Einval)

-- ---- the calls that are served

abbrev pub makes_or_ends : Call → Bool
makes_or_ends (calls.Fork block) = true
makes_or_ends (calls.MsgGet key create excl) = true
makes_or_ends (calls.SemGet key count create excl) = true
makes_or_ends (calls.Exit status) = true
makes_or_ends (calls.Killed sig) = true
makes_or_ends call = false

-- it makes nothing, gets nothing by a key, doesn't end its process, and can't have to wait
abbrev pub is_served : Call → Bool
is_served call = not (makes_or_ends call) && not (is_waiting call)
