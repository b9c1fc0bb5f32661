-- What `check` reads: a script, a line whose only word is `trace`, and a trace.
use Rattle.std.specs.Prelude.{ℕ, ◌+◌, ◌-◌, nat_lt, Bool, false, List, [], ◌∷◌, length, take, drop, sum_by, codes, bytes_eq, if◌then◌else◌, Option, Some, None, option_map, Result, Ok, Err}
use Rattle.pico_base.specs.declared.script.Script.{Script}
use Rattle.script_reader.specs.declared.fault.ScriptFault.TheVariants.{LineTooLong}
use Rattle.script_reader.specs.declared.fault.ScriptStop.{ScriptStop}
use Rattle.script_reader.specs.declared.fault.ScriptStop.TheVariants.{Memory, At}
use Rattle.script_reader.specs.Words.{lines_of, words_of}
use Rattle.script_reader.specs.Fault.{outcome}

-- the only word of the line is `trace`
abbrev pub is_marker_by : List (List ℕ) → Bool
is_marker_by (word ∷ []) = bytes_eq word (codes "trace")
is_marker_by _ = false

unfoldable pub is_marker : List ℕ → Bool
is_marker line = is_marker_by (words_of line)

-- how many lines stand before the first line `trace`
abbrev pub place_in : List (List ℕ) → Option ℕ
place_in [] = None
place_in (line ∷ lines) = if is_marker line then Some 0 else option_map (λ k. k + 1) (place_in lines)

unfoldable pub marker_place : List ℕ → Option ℕ
marker_place bytes = place_in (lines_of bytes)

-- how many bytes the first k lines have, with their line feeds
unfoldable pub size_of : ℕ → List ℕ → ℕ
size_of k bytes = sum_by (λ line. length line + 1) (take k (lines_of bytes))

-- the script stands before that line; without one all is the script
abbrev pub script_before : Option ℕ → List ℕ → List ℕ
script_before None bytes = bytes
script_before (Some k) bytes = take (size_of k bytes) bytes

-- the trace stands behind it; without one it is empty
abbrev pub trace_behind : Option ℕ → List ℕ → List ℕ
trace_behind None bytes = []
trace_behind (Some k) bytes = drop (size_of (k + 1) bytes) bytes

-- the number of the trace's first line; without a line `trace` it is the number of lines plus 1
abbrev pub first_behind : Option ℕ → List ℕ → ℕ
first_behind None bytes = length (lines_of bytes) + 1
first_behind (Some k) bytes = k + 2

-- the length of the line `trace`
abbrev pub first_length : List (List ℕ) → ℕ
first_length [] = 0
first_length (line ∷ lines) = length line

abbrev pub length_at : Option ℕ → List ℕ → Option ℕ
length_at place bytes = option_map (λ k. first_length (drop k (lines_of bytes))) place

abbrev pub script_of : List ℕ → List ℕ
script_of bytes = script_before (marker_place bytes) bytes

abbrev pub trace_of : List ℕ → List ℕ
trace_of bytes = trace_behind (marker_place bytes) bytes

abbrev pub first_line_of : List ℕ → ℕ
first_line_of bytes = first_behind (marker_place bytes) bytes

abbrev pub marker_length : List ℕ → Option ℕ
marker_length bytes = length_at (marker_place bytes) bytes

-- The limit on a line's length holds for the line `trace`, too. Its fault comes after those of earlier lines, and on
-- one line it stands before a missing `end` and before a script without words.
abbrev pub with_long_marker : ℕ → Result Script ScriptStop → Result Script ScriptStop
with_long_marker line (Ok script) = Err (At line LineTooLong)
with_long_marker line (Err Memory) = Err Memory
with_long_marker line (Err (At l fault)) = if nat_lt l line then Err (At l fault) else Err (At line LineTooLong)

abbrev pub with_marker : Option ℕ → ℕ → Result Script ScriptStop → Result Script ScriptStop
with_marker None line read = read
with_marker (Some size) line read = if nat_lt 4096 size then with_long_marker line read else read

-- the script of a text with its line `trace`, by that line's length and the number of the line behind it
abbrev pub script_with : Option ℕ → ℕ → List ℕ → Result Script ScriptStop
script_with marker first script = with_marker marker (first - 1) (outcome script)

-- The script that the bytes begin with, or its first fault with its line.
unfoldable pub checked_script : List ℕ → Result Script ScriptStop
checked_script bytes = script_with (marker_length bytes) (first_line_of bytes) (script_of bytes)
