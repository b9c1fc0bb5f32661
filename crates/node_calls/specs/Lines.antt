-- The lines that a block is written with, without the exit that its end may stand for.
use Rattle.std.specs.Prelude.{ℕ, ◌+◌, ◌-◌, Bool, false, List, [], length, slice_get, if◌then◌else◌, Option, Some, None}
use Rattle.pico_base.specs.declared.script.Line.{Line}
use Rattle.pico_base.specs.declared.script.Block.{Block}
use Rattle.pico_base.specs.declared.script.Script.{Script}
use Rattle.kernel_model.specs.Script.{is_exit}
use Rattle.kernel_model.specs.Fitting.{block_at}

abbrev pub written_in : Option Block → List Line
written_in None = []
written_in (Some block) = block.lines

abbrev pub written_lines : Script → ℕ → List Line
written_lines script block = written_in (block_at script block)

abbrev pub is_exit_line : Option Line → Bool
is_exit_line None = false
is_exit_line (Some line) = is_exit line.call

-- how many they are with the exit that their end stands for, where the last one is no exit
abbrev pub written_count : List Line → ℕ
written_count lines = if is_exit_line (slice_get lines (length lines - 1)) then length lines else length lines + 1
