-- Where a call waits, and which calls end a wait.
use Rattle.std.specs.Prelude.{ℕ, Bool, false, nat_eq, Option, Some, None, is_some}
use Rattle.pico_base.specs.declared.call.Call.{Call}
use Rattle.pico_base.specs.declared.call.Call.TheVariants as calls
use Rattle.pico_base.specs.declared.numbers.Name.{Name}
use Rattle.pico_base.specs.declared.numbers.Name.TheVariants.{Proc, Msg, Sem}
use Rattle.kernel_model.specs.Waiting.{is_waiting}

-- where a call that parks waits: at its queue or its set, and in waitpid at the caller itself
abbrev pub waits_at : ℕ → Call → Name
waits_at caller (calls.MsgSnd id class text nowait) = Msg id
waits_at caller (calls.MsgRcv id class size noerror nowait) = Msg id
waits_at caller (calls.SemOp id steps) = Sem id
waits_at caller call = Proc caller

abbrev pub is_same_name : Name → Name → Bool
is_same_name (Proc pid) (Proc other) = nat_eq pid other
is_same_name (Msg id) (Msg other) = nat_eq id other
is_same_name (Sem id) (Sem other) = nat_eq id other
is_same_name name other = false

-- where the wait is that a call ends; no other call than a withdrawal ends one
abbrev pub withdrawn_from : Call → Option Name
withdrawn_from (calls.Withdraw name) = Some name
withdrawn_from call = None

abbrev pub is_withdrawal : Call → Bool
is_withdrawal call = is_some (withdrawn_from call)

-- a call that may have to wait; a withdrawal never does
abbrev pub may_park : Call → Bool
may_park (calls.Withdraw name) = false
may_park call = is_waiting call
