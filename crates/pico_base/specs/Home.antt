-- Where a call can be carried out.
use Rattle.std.specs.Prelude.{ℕ, ◌==◌, if◌then◌else◌, Option, Some, None}
use Rattle.pico_base.specs.declared.call.Call.{Call}
use Rattle.pico_base.specs.declared.call.Call.TheVariants as calls
use Rattle.pico_base.specs.declared.call.Home.{Home}
use Rattle.pico_base.specs.declared.call.Home.TheVariants.{Own, Keys, Removal, At, Parent}
use Rattle.pico_base.specs.declared.numbers.Name.{Name}
use Rattle.pico_base.specs.declared.numbers.Name.TheVariants.{Proc, Msg, Sem}
use Rattle.pico_base.specs.declared.signal.SigArg.TheVariants.{Zero, Is, Bad}

-- a private get is the caller's own, one by key belongs to the keys
abbrev pub home_of_get : Option ℕ → Home
home_of_get None = Own
home_of_get (Some key) = Keys

-- what concerns oneself is one's own affair, and what concerns another process that process's
abbrev pub home_of_process : ℕ → ℕ → Home
home_of_process caller pid = if pid == caller then Own else At (Proc pid)

-- a withdrawal belongs where the call waits
abbrev pub home_of_withdrawal : ℕ → Name → Home
home_of_withdrawal caller (Proc pid) = home_of_process caller pid
home_of_withdrawal caller (Msg id) = At (Msg id)
home_of_withdrawal caller (Sem id) = At (Sem id)

abbrev pub home_of : ℕ → Call → Home
home_of caller (calls.Exit status) = Parent
home_of caller (calls.Killed sig) = Parent
home_of caller (calls.Kill pid Bad) = Own
home_of caller (calls.Kill pid Zero) = home_of_process caller pid
home_of caller (calls.Kill pid (Is sig)) = home_of_process caller pid
home_of caller (calls.MsgGet key create excl) = home_of_get key
home_of caller (calls.SemGet key count create excl) = home_of_get key
home_of caller (calls.MsgRmid id) = Removal (Msg id)
home_of caller (calls.SemRmid id) = Removal (Sem id)
home_of caller (calls.MsgSnd id class text nowait) = At (Msg id)
home_of caller (calls.MsgRcv id class size noerror nowait) = At (Msg id)
home_of caller (calls.MsgStat id) = At (Msg id)
home_of caller (calls.MsgSet id qbytes) = At (Msg id)
home_of caller (calls.SemOp id steps) = At (Sem id)
home_of caller (calls.SemGetVal id num) = At (Sem id)
home_of caller (calls.SemGetPid id num) = At (Sem id)
home_of caller (calls.SemGetNcnt id num) = At (Sem id)
home_of caller (calls.SemGetZcnt id num) = At (Sem id)
home_of caller (calls.SemSetVal id num value) = At (Sem id)
home_of caller (calls.SemGetAll id) = At (Sem id)
home_of caller (calls.SemSetAll id values) = At (Sem id)
home_of caller (calls.Fork block) = Own
home_of caller calls.GetPid = Own
home_of caller (calls.SigAction sig act) = Own
home_of caller (calls.SigProcMask how set) = Own
home_of caller calls.SigPending = Own
home_of caller (calls.Handled sig) = Own
home_of caller (calls.WaitPid child nohang) = Own
home_of caller (calls.Withdraw name) = home_of_withdrawal caller name
