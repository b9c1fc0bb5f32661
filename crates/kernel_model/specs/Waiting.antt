-- Calls of callers that wait: those in a form that may have to wait, and a withdrawal, which ends a wait. They have no
-- effect here, and no script has them (profile).
use Rattle.std.specs.Prelude.{pos, Bool, true, false, not, ◌&&◌, int_le}
use Rattle.std.specs.List.{list_any}
use Rattle.pico_base.specs.declared.call.Call.{Call}
use Rattle.pico_base.specs.declared.call.Call.TheVariants as calls
use Rattle.pico_base.specs.declared.call.SemStep.{SemStep}

-- an operation that may have to wait: it isn't positive, and has no IPC_NOWAIT
abbrev pub may_wait : SemStep → Bool
may_wait step = int_le step.add (pos 0) && not step.nowait

-- without IPC_NOWAIT (msgsnd, msgrcv, semop), without WNOHANG (waitpid), or a withdrawal
abbrev pub is_waiting : Call → Bool
is_waiting (calls.MsgSnd id class text nowait) = not nowait
is_waiting (calls.MsgRcv id class size noerror nowait) = not nowait
is_waiting (calls.WaitPid child nohang) = not nohang
is_waiting (calls.SemOp id steps) = list_any may_wait steps
is_waiting (calls.Withdraw name) = true
is_waiting (calls.Fork block) = false
is_waiting (calls.Exit status) = false
is_waiting (calls.Killed sig) = false
is_waiting calls.GetPid = false
is_waiting (calls.Kill pid sig) = false
is_waiting (calls.SigAction sig act) = false
is_waiting (calls.SigProcMask how set) = false
is_waiting calls.SigPending = false
is_waiting (calls.Handled sig) = false
is_waiting (calls.MsgGet key create excl) = false
is_waiting (calls.MsgStat id) = false
is_waiting (calls.MsgSet id qbytes) = false
is_waiting (calls.MsgRmid id) = false
is_waiting (calls.SemGet key count create excl) = false
is_waiting (calls.SemGetVal id num) = false
is_waiting (calls.SemGetPid id num) = false
is_waiting (calls.SemGetNcnt id num) = false
is_waiting (calls.SemGetZcnt id num) = false
is_waiting (calls.SemSetVal id num value) = false
is_waiting (calls.SemGetAll id) = false
is_waiting (calls.SemSetAll id values) = false
is_waiting (calls.SemRmid id) = false
