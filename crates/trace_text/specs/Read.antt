-- What the bytes of a trace are: the text of a history, within the limits; and else the first line that is none.
use Rattle.std.specs.Prelude.{◌≡◌, ℕ, zero, suc, ◌+◌, ◌-◌, ◌≤◌, ◌==◌, nat_le, nat_lt, Bool, false, not, ◌&&◌, List, [], ◌∷◌, ◌++◌, length, take, drop, position, if◌then◌else◌, Option, option_map, Result, Ok, Err, IsTrue}
use Rattle.std.specs.List.{flat_map, list_all}
use Rattle.std.specs.Option.{option_map_or}
use Rattle.pico_base.specs.declared.reply.Entry.{Entry}
use Rattle.pico_base.specs.declared.script.Script.{Script}
use Rattle.kernel_model.specs.Trace.{entry_line, totals_line}
use Rattle.trace_text.specs.Grammar.{is_entry}
use Rattle.trace_text.specs.Reading.{has_ended, is_line, entry_in}
use Rattle.trace_text.specs.declared.fault.CheckFault.{CheckFault}
use Rattle.trace_text.specs.declared.fault.CheckFault.TheVariants.{Memory, NotATrace, Illegal, NotTheScript}

-- a trace has at most 67,108,864 bytes, and a line of it at most 1,048,576 before its line feed
abbrev pub max_trace : ℕ
max_trace = 67108864

abbrev pub max_line : ℕ
max_line = 1048576

abbrev pub has_line : Script → Entry → Bool
has_line script e = is_entry script e && nat_le (length (entry_line script e)) (max_line + 1)

-- the lines of these entries, each in the grammar, and then the rest
pub record BeginsWith (script : Script) (bytes : List ℕ) (history : List Entry) (rest : List ℕ) : Type 0 where
  pub lines : IsTrue (list_all (has_line script) history)
  pub text : bytes ≡ flat_map (entry_line script) history ++ rest
  pub within : length (flat_map (entry_line script) history) ≤ max_trace

-- the whole text of this history
pub record IsTraceOf (script : Script) (bytes : List ℕ) (history : List Entry) : Type 0 where
  pub begins : BeginsWith script bytes history (totals_line history)
  pub short : length (totals_line history) ≤ max_line + 1
  pub within : length bytes ≤ max_trace

-- Line by line, as the code goes.

-- the first line without its line feed, and what follows that
abbrev pub next_line : List ℕ → Option (List ℕ × List ℕ)
next_line bytes = option_map (λ at. (take at bytes, drop (at + 1) bytes)) (position (λ b. b == 10) bytes)

-- a line with its line feed is within its limit, and within what is left of the trace's
abbrev pub fits : ℕ → List ℕ → Bool
fits left line = nat_le (length line) max_line && nat_lt (length line) left

abbrev pub begins_like_totals : List ℕ → Bool
begins_like_totals [] = false
begins_like_totals (b ∷ line) = b == 116

abbrev pub read_line : Script → ℕ → ℕ → List Entry → List ℕ → List ℕ → (Entry → Result (List Entry) ℕ)
    → Result (List Entry) ℕ
read_line script line left done text after next =
    if not (fits left text) then Err line else
    if is_line (totals_line done) text then (if has_ended after then Ok done else Err (line + 1)) else
    option_map_or next (entry_in script text) (Err line)

-- at most so many lines, from this one on, behind those of these entries
unfoldable pub read_from : Script → ℕ → ℕ → ℕ → List Entry → List ℕ → Result (List Entry) ℕ
read_from script zero line left done bytes = Err line
read_from script (suc most) line left done bytes =
    option_map_or
    (λ (p : List ℕ × List ℕ). read_line script line left done p.0 p.1
    (λ e. read_from script most (line + 1) (left - (length p.0 + 1)) (done ++ e ∷ []) p.1))
    (next_line bytes)
    (Err line)

abbrev pub read_of : Script → List ℕ → ℕ → Result (List Entry) ℕ
read_of script bytes first = read_from script (length bytes) first max_trace [] bytes

-- the answer is the one that is wanted, unless memory ran out
abbrev pub Gives : Result (List Entry) CheckFault → Result (List Entry) ℕ → Type 0
Gives (Ok entries) wanted = wanted ≡ Ok entries
Gives (Err Memory) wanted = Unit {0}
Gives (Err (NotATrace line)) wanted = wanted ≡ Err line
Gives (Err (Illegal line kernel trace)) wanted = ⊥
Gives (Err (NotTheScript line due found)) wanted = ⊥
