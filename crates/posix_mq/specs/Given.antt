-- The given calls of a script, as they are kept beside the script of System V that runs it.
use Rattle.std.specs.Prelude.{ℕ, ℤ, pos, negsuc, List, map, if◌then◌else◌, Some}
use Rattle.pico_base.specs.declared.call.Call.{Call}
use Rattle.pico_base.specs.declared.call.Call.TheVariants as calls
use Rattle.pico_base.specs.declared.script.Line.{Line}
use Rattle.pico_base.specs.declared.script.Block.{Block}
use Rattle.pico_base.specs.declared.script.Script.{Script}
use Rattle.kernel_model.specs.Numbers.{is_u16}
use Rattle.mq_model.specs.declared.lines.MqCall.{MqCall}
use Rattle.mq_model.specs.declared.lines.MqCall.TheVariants.{Open, Send, Receive, GetAttr, Same}
use Rattle.mq_model.specs.declared.lines.MqLine.{MqLine}

-- a priority and a size have 16 bits in a given script
abbrev pub given_send : ℕ → ℤ → List ℕ → MqCall
given_send id (pos priority) text = if is_u16 priority then Send id priority text else Same
given_send id (negsuc n) text = Same

abbrev pub given_receive : ℕ → ℕ → MqCall
given_receive id size = if is_u16 size then Receive id size else Same

abbrev pub given_call : Call → MqCall
given_call (calls.MsgGet (Some name) create excl) = Open name create excl
given_call (calls.MsgSnd id class text nowait) = given_send id class text
given_call (calls.MsgRcv id class size noerror nowait) = given_receive id size
given_call (calls.MsgStat id) = GetAttr id
given_call call = Same

abbrev pub given_line : Line → MqLine
given_line line = record { from = line.from; call = given_call line.call }

abbrev pub given_lines : Block → List MqLine
given_lines block = map given_line block.lines

abbrev pub given_in : Script → List (List MqLine)
given_in given = map given_lines given.blocks
