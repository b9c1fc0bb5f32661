-- What a call does: from a kernel, a process, a call and a number for what the call may create, the next kernel
-- and the outcome. Where there is no result the call can't stand at that point of a history.
use Rattle.std.specs.Prelude.{ℕ, ◌%◌, Bool, not, ◌&&◌, if◌then◌else◌, Option, Some, None, is_some}
use Rattle.pico_base.specs.declared.call.Call.{Call}
use Rattle.pico_base.specs.declared.call.Call.TheVariants as calls
use Rattle.pico_base.specs.declared.numbers.Name.{Name}
use Rattle.pico_base.specs.declared.numbers.Name.TheVariants.{Proc, Msg, Sem}
use Rattle.pico_base.specs.declared.reply.Errno.TheVariants.{Eintr}
use Rattle.pico_base.specs.declared.reply.Reply.{Reply}
use Rattle.pico_base.specs.declared.reply.Reply.TheVariants as replies
use Rattle.pico_base.specs.declared.reply.Outcome.{Outcome}
use Rattle.pico_base.specs.declared.reply.Ending.TheVariants as endings
use Rattle.pico_base.specs.Signal.{at}
use Rattle.number_maps.specs.Maps.{get}
use Rattle.kernel_model.specs.Effect.{reply_alone}
use Rattle.kernel_model.specs.Queue.{Queue}
use Rattle.kernel_model.specs.Row.{wait}
use Rattle.kernel_model.specs.SemaphoreSet.{SemaphoreSet}
use Rattle.kernel_model.specs.Signals.{act_on, with_mask}
use Rattle.kernel_model.specs.Transition as plain
use Rattle.waiting_model.specs.declared.callers.Waiting.{Waiting}
use Rattle.waiting_model.specs.Calls.{withdrawn_from}
use Rattle.waiting_model.specs.Waiters.{Awaited, waiter, without_waiter}
use Rattle.waiting_model.specs.Marks.{Alive, plain_alive, after_reply, spent, is_parked_at}
use Rattle.waiting_model.specs.Kernel.{Kernel, living_at, with_alive, change_living}
use Rattle.waiting_model.specs.Effect.{Effect, reply_with, replying, on_named, outcome_of_effect}
use Rattle.waiting_model.specs.ProcessCalls.{fork_effect, end_process, reap_child, with_signals, action_effect, kill}
use Rattle.waiting_model.specs.QueueCalls.{get_queue, with_queue, on_queue, remove_queue}
use Rattle.waiting_model.specs.SetCalls.{get_set, with_set, on_set, remove_set}

-- what a call leads to
pub record Successor : Type 0 where
  pub kernel : Kernel
  pub outcome : Outcome

abbrev pub successor : Kernel → Outcome → Successor
successor kernel outcome = record { kernel = kernel; outcome = outcome }

-- The table of calls. `who` is the caller as it would wait: its process, its call, and where its reply is to go. A
-- withdrawal isn't one of them: it has a step of its own.
abbrev pub effect_by : Kernel → Waiting → Alive → Call → ℕ → Option Effect
effect_by k who a (calls.Fork block) n = fork_effect k who.pid a n
effect_by k who a (calls.Exit status) n = Some (end_process k who.pid a (endings.Exited (status % 256)))
effect_by k who a (calls.Killed sig) n = Some (end_process k who.pid a (endings.Killed sig))
effect_by k who a calls.GetPid n = Some (reply_with k who.pid)
effect_by k who a (calls.Kill target sig) n = Some (kill k who.pid target sig)
effect_by k who a (calls.SigAction sig act) n = Some (action_effect k who.pid a (act_on a.row.signals sig act))
effect_by k who a (calls.SigProcMask how set) n =
    Some (replying (with_signals k who.pid a (with_mask a.row.signals how set)) (replies.Bits a.row.signals.mask))
effect_by k who a calls.SigPending n = Some (replying k (replies.Bits a.row.signals.pending))
effect_by k who a (calls.Handled sig) n = Some (reply_with k (at a.row.signals.handled sig))
effect_by k who a (calls.WaitPid child nohang) n = Some (reap_child k who.pid a nohang (wait a.row.family child))
effect_by k who a (calls.MsgGet key create excl) n = get_queue k key create excl n
effect_by k who a (calls.MsgSnd id class text nowait) n = Some (on_queue k id who)
effect_by k who a (calls.MsgRcv id class size noerror nowait) n = Some (on_queue k id who)
effect_by k who a (calls.MsgStat id) n = Some (on_queue k id who)
effect_by k who a (calls.MsgSet id qbytes) n = Some (on_queue k id who)
effect_by k who a (calls.MsgRmid id) n = Some (on_named k (get k.queues id) (remove_queue k id))
effect_by k who a (calls.SemGet key count create excl) n = get_set k key count create excl n
effect_by k who a (calls.SemOp id steps) n = Some (on_set k id who)
effect_by k who a (calls.SemGetVal id num) n = Some (on_set k id who)
effect_by k who a (calls.SemGetPid id num) n = Some (on_set k id who)
effect_by k who a (calls.SemGetNcnt id num) n = Some (on_set k id who)
effect_by k who a (calls.SemGetZcnt id num) n = Some (on_set k id who)
effect_by k who a (calls.SemSetVal id num value) n = Some (on_set k id who)
effect_by k who a (calls.SemGetAll id) n = Some (on_set k id who)
effect_by k who a (calls.SemSetAll id values) n = Some (on_set k id who)
effect_by k who a (calls.SemRmid id) n = Some (on_named k (get k.sets id) (remove_set k id))
effect_by k who a (calls.Withdraw name) n = None

abbrev pub effect : Kernel → Waiting → Alive → ℕ → Option Effect
effect k who a n = effect_by k who a who.call n

-- Who may act: a process that isn't parked, as far as its allowance goes.
abbrev pub may_make : Alive → Call → Bool
may_make a call = not (is_some a.marks.parked) && plain.may_make (plain_alive a) call

-- a process that waits at this name may withdraw once a signal has struck it, whatever its allowance
abbrev pub may_withdraw : ℕ → Alive → Name → Bool
may_withdraw pid a name = a.marks.struck && is_parked_at pid name a.marks.parked

-- The caller's own marks. A doomed process that lives on has nothing left but its ending, also where its call parks. A
-- reply ends its wait, and a call without a reply is what it waits with.

abbrev pub allowance_after : Kernel → ℕ → Option Alive → Kernel
allowance_after k pid None = k
allowance_after k pid (Some a) = if is_some a.row.signals.doom then with_alive k pid (spent a) else k

abbrev pub after_call : Call → Option Reply → Alive → Alive
after_call call None a = record a { marks = record a.marks { parked = Some call } }
after_call call (Some reply) a = after_reply a

abbrev pub marks_after : Kernel → ℕ → Call → Option Reply → Kernel
marks_after k pid call own = record k { processes = change_living k.processes pid (after_call call own) }

abbrev pub finish_call : Kernel → ℕ → Call → Option Reply → Kernel
finish_call k pid call own = marks_after (allowance_after k pid (living_at k pid)) pid call own

abbrev pub outcome_of : ℕ → Call → Option Effect → Option Successor
outcome_of pid call None = None
outcome_of pid call (Some e) = Some (successor (finish_call e.kernel pid call e.own) (outcome_of_effect e))

-- A withdrawal: the process doesn't wait any more, and the reply to its call is EINTR (System Interfaces 2.4: a signal
-- interrupts a call that waits). Its allowance stays.

abbrev pub queue_without : Kernel → ℕ → ℕ → Option (Awaited Queue) → Kernel
queue_without k id pid None = k
queue_without k id pid (Some q) = with_queue k id (without_waiter pid q)

abbrev pub set_without : Kernel → ℕ → ℕ → Option (Awaited SemaphoreSet) → Kernel
set_without k id pid None = k
set_without k id pid (Some s) = with_set k id (without_waiter pid s)

abbrev pub unparked : Kernel → ℕ → Name → Kernel
unparked k pid (Proc own) = k
unparked k pid (Msg id) = queue_without k id pid (get k.queues id)
unparked k pid (Sem id) = set_without k id pid (get k.sets id)

abbrev pub withdrawn : Kernel → ℕ → Name → Kernel
withdrawn k pid name =
    let left = unparked k pid name
    in record left { processes = change_living left.processes pid after_reply }

abbrev pub withdraw : Kernel → ℕ → Name → Successor
withdraw k pid name = successor (withdrawn k pid name) (reply_alone (replies.Fail Eintr))

-- a call that ends no wait is carried out, and one that does is a withdrawal
abbrev pub step_by : Kernel → ℕ → Call → ℕ → Alive → Option Name → Option Successor
step_by k pid call n a None =
    if may_make a call then outcome_of pid call (effect k (waiter pid call) a n) else None
step_by k pid call n a (Some name) =
    if may_withdraw pid a name then Some (withdraw k pid name) else None

abbrev pub transition_by : Kernel → ℕ → Call → ℕ → Option Alive → Option Successor
transition_by k pid call n None = None
transition_by k pid call n (Some a) = step_by k pid call n a (withdrawn_from call)

abbrev pub transition : Kernel → ℕ → Call → ℕ → Option Successor
transition k pid call n = transition_by k pid call n (living_at k pid)
