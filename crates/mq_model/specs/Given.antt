-- Which scripts are given scripts of POSIX message queues: those whose calls on queues are theirs, in System V's words.
use Rattle.std.specs.Prelude.{◌≡◌, ℕ, ℤ, pos, negsuc, Bool, true, false, not, ◌&&◌, Option, is_some}
use Rattle.std.specs.List.{list_all}
use Rattle.std.specs.Ordering.{int_eq}
use Rattle.pico_base.specs.declared.call.Call.{Call}
use Rattle.pico_base.specs.declared.call.Call.TheVariants as calls
use Rattle.pico_base.specs.declared.script.Line.{Line}
use Rattle.pico_base.specs.declared.script.Block.{Block}
use Rattle.pico_base.specs.declared.script.Script.{Script}
use Rattle.kernel_model.specs.Numbers.{is_u16}

-- a priority, which is written as a message's type
abbrev pub is_priority : ℤ → Bool
is_priority (pos priority) = is_u16 priority
is_priority (negsuc n) = false

-- `mqopen` is a `msgget` of a key, `mqsend` a `msgsnd`, `mqreceive` a `msgrcv` of type 0, and `mqgetattr` a look
abbrev pub is_given_call : Call → Bool
is_given_call (calls.MsgGet key create excl) = is_some key
is_given_call (calls.MsgSnd id class text nowait) = is_priority class && not nowait
is_given_call (calls.MsgRcv id class size noerror nowait) =
    int_eq class (pos 0) && (is_u16 size && (not noerror && not nowait))
is_given_call (calls.MsgSet id qbytes) = false
is_given_call (calls.MsgRmid id) = false
is_given_call call = true

abbrev pub is_given_line : Line → Bool
is_given_line line = is_given_call line.call

abbrev pub is_given_block : Block → Bool
is_given_block block = list_all is_given_line block.lines

abbrev pub IsGiven : Script → Type 0
IsGiven given = list_all is_given_block given.blocks ≡ true
