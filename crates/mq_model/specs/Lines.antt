-- The given script, by the script of System V that runs it and the given call of each line.
use Rattle.std.specs.Prelude.{ℕ, pos, false, List, [], ◌∷◌, Option, Some}
use Rattle.pico_base.specs.declared.call.Call.{Call}
use Rattle.pico_base.specs.declared.call.Call.TheVariants as calls
use Rattle.pico_base.specs.declared.script.Line.{Line}
use Rattle.pico_base.specs.declared.script.Block.{Block}
use Rattle.pico_base.specs.declared.script.Script.{Script}
use Rattle.mq_model.specs.declared.lines.MqCall.{MqCall}
use Rattle.mq_model.specs.declared.lines.MqCall.TheVariants.{Open, Send, Receive, GetAttr, Same}
use Rattle.mq_model.specs.declared.lines.MqLine.{MqLine}

-- the line with this call in place of its own
abbrev pub with_call : Line → Option ℕ → Call → Line
with_call line from call = record line { from = from; call = call }

abbrev pub line_given : Line → Option ℕ → MqCall → Line
line_given line from (Open name create excl) = with_call line from (calls.MsgGet (Some name) create excl)
line_given line from (Send id prio text) = with_call line from (calls.MsgSnd id (pos prio) text false)
line_given line from (Receive id size) = with_call line from (calls.MsgRcv id (pos 0) size false false)
line_given line from (GetAttr id) = with_call line from (calls.MsgStat id)
line_given line from Same = line

abbrev pub lines_given : List Line → List MqLine → List Line
lines_given (line ∷ lines) (mq ∷ mqs) = line_given line mq.from mq.call ∷ lines_given lines mqs
lines_given _ _ = []

abbrev pub block_given : Block → List MqLine → Block
block_given block mqs = record block { lines = lines_given block.lines mqs }

abbrev pub blocks_given : List Block → List (List MqLine) → List Block
blocks_given (block ∷ blocks) (mqs ∷ more) = block_given block mqs ∷ blocks_given blocks more
blocks_given _ _ = []

abbrev pub script_given : Script → List (List MqLine) → Script
script_given script lines = record { blocks = blocks_given script.blocks lines }
