-- What a call does: from a kernel, a process, a call and a number for what the call may create, the next kernel
-- and the outcome. Where there is no result the call can't stand at that point of a history.
use Rattle.std.specs.Prelude.{ℕ, ◌%◌, Bool, true, false, not, nat_eq, if◌then◌else◌, Option, Some, None, is_some}
use Rattle.pico_base.specs.declared.call.Call.{Call}
use Rattle.pico_base.specs.declared.call.Call.TheVariants as calls
use Rattle.pico_base.specs.declared.reply.Reply.TheVariants as replies
use Rattle.pico_base.specs.declared.reply.Outcome.{Outcome}
use Rattle.pico_base.specs.declared.reply.Ending.TheVariants as endings
use Rattle.pico_base.specs.declared.signal.Sig.{Sig}
use Rattle.pico_base.specs.Signal.{at, signal_number}
use Rattle.number_maps.specs.Maps.{get}
use Rattle.kernel_model.specs.Signals.{act_on, with_mask}
use Rattle.kernel_model.specs.Row.{Alive, Allowance, Free, One, Spent, wait}
use Rattle.kernel_model.specs.Queue.{send, receive, set_qbytes}
use Rattle.kernel_model.specs.SemaphoreSet.{value_at, last_at, waiting_at, set_value, set_all}
use Rattle.kernel_model.specs.Kernel.{Kernel, living_at, with_alive}
use Rattle.kernel_model.specs.Effect.{Effect, reply_with, look_up, on_named, reply_alone}
use Rattle.kernel_model.specs.ProcessCalls.{fork_effect, end_process, reap_child, with_signals, action_effect, kill}
use Rattle.kernel_model.specs.QueueCalls.{get_queue, change_queue, receive_effect, stat_effect, remove_queue}
use Rattle.kernel_model.specs.SetCalls.{get_set, change_set, operate, all_values, remove_set}

-- what a call leads to
pub record Successor : Type 0 where
  pub kernel : Kernel
  pub outcome : Outcome

abbrev pub successor : Kernel → Outcome → Successor
successor kernel outcome = record { kernel = kernel; outcome = outcome }

-- The table of calls. A call that may have to wait has no effect here, nor has a withdrawal (profile). `exit` keeps the
-- low byte of its status (_Exit), `getpid` replies the caller's own number (getpid), and `handled` how often a signal
-- was caught (profile).
abbrev pub effect : Kernel → ℕ → Alive → Call → ℕ → Option Effect
effect k pid a (calls.Fork block) n = fork_effect k pid a n
effect k pid a (calls.Exit status) n = Some (end_process k pid a (endings.Exited (status % 256)))
effect k pid a (calls.Killed sig) n = Some (end_process k pid a (endings.Killed sig))
effect k pid a calls.GetPid n = Some (reply_with k pid)
effect k pid a (calls.Kill target sig) n = Some (kill k pid target sig)
effect k pid a (calls.SigAction sig act) n = Some (action_effect k pid a (act_on a.row.signals sig act))
effect k pid a (calls.SigProcMask how set) n =
    Some (record {
      kernel = with_signals k pid a (with_mask a.row.signals how set);
      reply =
          replies.Bits a.row.signals.mask;
    })
effect k pid a calls.SigPending n = Some (record { kernel = k; reply = replies.Bits a.row.signals.pending })
effect k pid a (calls.Handled sig) n = Some (reply_with k (at a.row.signals.handled sig))
effect k pid a (calls.WaitPid child true) n = Some (reap_child k pid a (wait a.row.family child))
effect k pid a (calls.WaitPid child false) n = None
effect k pid a (calls.MsgGet key create excl) n = get_queue k key create excl n
effect k pid a (calls.MsgSnd id class text true) n =
    Some (on_named k (get k.queues id) (λ q. change_queue k id (send q pid class text)))
effect k pid a (calls.MsgSnd id class text false) n = None
effect k pid a (calls.MsgRcv id class size noerror true) n =
    Some (on_named k (get k.queues id) (λ q. receive_effect k id (receive q pid class size noerror)))
effect k pid a (calls.MsgRcv id class size noerror false) n = None
effect k pid a (calls.MsgStat id) n = Some (on_named k (get k.queues id) (stat_effect k))
effect k pid a (calls.MsgSet id qbytes) n =
    Some (on_named k (get k.queues id) (λ q. change_queue k id (set_qbytes q qbytes)))
effect k pid a (calls.MsgRmid id) n = Some (on_named k (get k.queues id) (λ _. remove_queue k id))
effect k pid a (calls.SemGet key count create excl) n = get_set k key count create excl n
effect k pid a (calls.SemOp id steps) n = operate k pid id steps
effect k pid a (calls.SemGetVal id num) n = Some (on_named k (get k.sets id) (λ s. look_up k (value_at s num)))
effect k pid a (calls.SemGetPid id num) n = Some (on_named k (get k.sets id) (λ s. look_up k (last_at s num)))
effect k pid a (calls.SemGetNcnt id num) n = Some (on_named k (get k.sets id) (λ s. look_up k (waiting_at s num)))
effect k pid a (calls.SemGetZcnt id num) n = Some (on_named k (get k.sets id) (λ s. look_up k (waiting_at s num)))
effect k pid a (calls.SemSetVal id num value) n =
    Some (on_named k (get k.sets id) (λ s. change_set k id (set_value s num value)))
effect k pid a (calls.SemGetAll id) n = Some (on_named k (get k.sets id) (all_values k))
effect k pid a (calls.SemSetAll id values) n =
    Some (on_named k (get k.sets id) (λ s. change_set k id (set_all s values)))
effect k pid a (calls.SemRmid id) n = Some (on_named k (get k.sets id) (λ _. remove_set k id))
effect k pid a (calls.Withdraw name) n = None

-- Who may act (profile: in POSIX a process that a signal ends does nothing more): a doomed process ends by its signal,
-- in an entry of its own, and what it may do before is its allowance.

abbrev pub is_spent : Allowance → Bool
is_spent Spent = true
is_spent One = false
is_spent Free = false

abbrev pub is_doomed_by : Option Sig → Sig → Bool
is_doomed_by None g = false
is_doomed_by (Some doom) g = nat_eq (signal_number doom) (signal_number g)

abbrev pub may_make : Alive → Call → Bool
may_make a (calls.Killed sig) = is_doomed_by a.row.signals.doom sig
may_make a (calls.Fork block) = not (is_spent a.allowance)
may_make a (calls.Exit status) = not (is_spent a.allowance)
may_make a calls.GetPid = not (is_spent a.allowance)
may_make a (calls.Kill pid sig) = not (is_spent a.allowance)
may_make a (calls.SigAction sig act) = not (is_spent a.allowance)
may_make a (calls.SigProcMask how set) = not (is_spent a.allowance)
may_make a calls.SigPending = not (is_spent a.allowance)
may_make a (calls.Handled sig) = not (is_spent a.allowance)
may_make a (calls.WaitPid child nohang) = not (is_spent a.allowance)
may_make a (calls.MsgGet key create excl) = not (is_spent a.allowance)
may_make a (calls.MsgSnd id class text nowait) = not (is_spent a.allowance)
may_make a (calls.MsgRcv id class size noerror nowait) = not (is_spent a.allowance)
may_make a (calls.MsgStat id) = not (is_spent a.allowance)
may_make a (calls.MsgSet id qbytes) = not (is_spent a.allowance)
may_make a (calls.MsgRmid id) = not (is_spent a.allowance)
may_make a (calls.SemGet key count create excl) = not (is_spent a.allowance)
may_make a (calls.SemOp id steps) = not (is_spent a.allowance)
may_make a (calls.SemGetVal id num) = not (is_spent a.allowance)
may_make a (calls.SemGetPid id num) = not (is_spent a.allowance)
may_make a (calls.SemGetNcnt id num) = not (is_spent a.allowance)
may_make a (calls.SemGetZcnt id num) = not (is_spent a.allowance)
may_make a (calls.SemSetVal id num value) = not (is_spent a.allowance)
may_make a (calls.SemGetAll id) = not (is_spent a.allowance)
may_make a (calls.SemSetAll id values) = not (is_spent a.allowance)
may_make a (calls.SemRmid id) = not (is_spent a.allowance)
may_make a (calls.Withdraw name) = not (is_spent a.allowance)

-- a doomed process that lives on after an entry of its own has nothing left but its ending
abbrev pub finish_call : Kernel → ℕ → Option Alive → Kernel
finish_call k pid None = k
finish_call k pid (Some a) = if is_some a.row.signals.doom then with_alive k pid (record a { allowance = Spent }) else k

abbrev pub outcome_of : ℕ → Option Effect → Option Successor
outcome_of pid None = None
outcome_of pid (Some e) =
    Some (successor (finish_call e.kernel pid (living_at e.kernel pid)) (reply_alone e.reply))

abbrev pub transition_by : Kernel → ℕ → Call → ℕ → Option Alive → Option Successor
transition_by k pid call n None = None
transition_by k pid call n (Some a) = if may_make a call then outcome_of pid (effect k pid a call n) else None

abbrev pub transition : Kernel → ℕ → Call → ℕ → Option Successor
transition k pid call n = transition_by k pid call n (living_at k pid)
