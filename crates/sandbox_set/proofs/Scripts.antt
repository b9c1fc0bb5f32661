-- The reading of a sandbox's script, and the line of its fault.
use Rattle.std.proofs.Common.{◌≡◌, ℕ, ◌+◌, ◌≤◌, Bool, true, false, ◌&&◌, ◌==◌, cond, List, [], ◌∷◌, length, Option, Some, None, Ok, Err, le-ltb, refl, sym, ap, subst, ◌∙◌, arith}
use Rattle.std.specs.Str.Lossy.{utf8_valid_len}
use Rattle.pico_base.specs.declared.script.Script.{Script}
use Rattle.script_reader.specs.declared.fault.ScriptFault.{ScriptFault}
use Rattle.script_reader.specs.declared.fault.ScriptFault.TheVariants.{NoEnd, NoProc}
use Rattle.script_reader.specs.declared.fault.ScriptStop.{ScriptStop}
use Rattle.script_reader.specs.declared.fault.ScriptStop.TheVariants.{At}
use Rattle.script_reader.specs.declared.place.Place.{Place}
use Rattle.script_reader.specs.declared.says.Said.{Said}
use Rattle.script_reader.specs.Says.{names_of, said_of}
use Rattle.script_reader.specs.Words.{lines_of}
use Rattle.script_reader.specs.Fault as script
use Rattle.script_reader.specs.Fault.{Blocks, blocks_from, blocks_of, outcome, start, ending, unless, fault_of, behind}
use Rattle.sandbox_set.specs.declared.fault.BoxFault.TheVariants.{Script as OfScript}
use Rattle.sandbox_set.specs.declared.fault.BoxStop.TheVariants.{At as BoxAt}
use Rattle.sandbox_set.specs.Boxes.{is_no_proc, is_wordless, fault_line, placed, read_behind}
use Rattle.sandbox_set.specs.Parts.{IsText, script_from}

-- ---- the line of a script's fault

abbrev IsWithinLines : ℕ → ℕ → ℕ × ScriptFault → Type 0
IsWithinLines low high fault = (low ≤ fault.0) × (fault.0 ≤ high)

same_fault : (low high : ℕ) (fault other : ℕ × ScriptFault) → IsWithinLines low high fault
    → (let b : Blocks = Err fault in b ≡ Err other) → IsWithinLines low high other
same_fault low high fault other h e =
    let same : fault ≡ other = cc in
    subst (IsWithinLines low high) same h

ending_lines : (place : Place) (number : ℕ) (x : ℕ × ScriptFault) → 1 ≤ number → ending place number ≡ Err x
    → IsWithinLines 1 number x
ending_lines place number x some e = ending_step place.inside (length place.blocks == 0) e
  where
    ending_step : (b c : Bool)
        → cond b (Err (number, NoEnd)) (cond c (Err (1, NoProc)) (Ok place.blocks)) ≡ Err x → IsWithinLines 1 number x
    ending_step true c e = same_fault 1 number (number, NoEnd) x (some, omega arith) e
    ending_step false true e = same_fault 1 number (1, NoProc) x (omega arith, some) e
    ending_step false false e = absurd cc

blocks_lines : (names : List (List ℕ)) (place : Place) (number : ℕ) (lines : List (List ℕ)) (x : ℕ × ScriptFault)
    → 1 ≤ number → blocks_from names place number lines ≡ Err x → IsWithinLines 1 (number + length lines) x
unfolding blocks_from
blocks_lines names place number [] x some e =
    let h = ending_lines place number x some e in
    (h.0, omega (arith, h.1))
blocks_lines names place number (line ∷ lines) x some e =
    let said : Said = said_of names line in
    line_step (fault_of place (length line) said) e
    (blocks_lines names (behind place said) (number + 1) lines x (omega arith))
  where
    line_step : (o : Option ScriptFault)
        → unless o number (blocks_from names (behind place (said_of names line)) (number + 1) lines) ≡ Err x
        → (blocks_from names (behind place (said_of names line)) (number + 1) lines ≡ Err x
        → IsWithinLines 1 (number + 1 + length lines) x)
        → IsWithinLines 1 (number + length (line ∷ lines)) x
    line_step (Some fault) e others =
        same_fault 1 (number + length (line ∷ lines)) (number, fault) x (some, omega arith) e
    line_step None e others =
        let h = others e in
        (h.0, omega (arith, h.1))

-- a fault is at one of the script's lines, or behind them
pub fault_lines : (lines : List (List ℕ)) (x : ℕ × ScriptFault) → blocks_of lines ≡ Err x
    → (1 ≤ x.0) × (x.0 ≤ 1 + length lines)
unfolding blocks_of
fault_lines lines x e =
    blocks_lines (names_of lines) (start (length (names_of lines))) 1 lines x (omega arith) e

-- the same in the whole input
pub placed_lines : (number : ℕ) (lines : List (List ℕ)) (x : ℕ × ScriptFault) → read_behind number lines ≡ Err x
    → (number + 1 ≤ x.0) × (x.0 ≤ number + 1 + length lines)
unfolding read_behind
placed_lines number lines x e = placed_step (blocks_of lines) refl e
  where
    place_step : (b : Bool) (y : ℕ × ScriptFault) → (1 ≤ y.0) × (y.0 ≤ 1 + length lines)
        → (number + 1 ≤ cond b (number + length lines + 1) (number + y.0))
        × (cond b (number + length lines + 1) (number + y.0) ≤ number + 1 + length lines)
    place_step true y h = (omega arith, omega arith)
    place_step false y h = (omega (arith, h.0), omega (arith, h.1))

    placed_step : (read : Blocks) → blocks_of lines ≡ read → placed number lines read ≡ Err x
        → (number + 1 ≤ x.0) × (x.0 ≤ number + 1 + length lines)
    placed_step (Ok blocks) is e = absurd cc
    placed_step (Err y) is e =
        same_fault (number + 1) (number + 1 + length lines) (fault_line number lines y.0 y.1, y.1) x
        (place_step (is_no_proc y.1 && is_wordless lines) y (fault_lines lines y is)) e

-- ---- a text that is short and UTF-8

-- its outcome is that of its lines
pub outcome_is : (bytes : List ℕ) → length bytes ≤ 1048576 → IsText bytes
    → outcome bytes ≡ script.script_from (blocks_of (lines_of bytes))
unfolding outcome
outcome_is bytes short text =
    rw (le-ltb 1048576 (length bytes) short, le-ltb (utf8_valid_len bytes) (length bytes) (omega (arith, text))) refl

blocks_ok : (read : Blocks) (s : Script) → script.script_from read ≡ Ok s → read ≡ Ok s.blocks
blocks_ok (Ok blocks) s e =
    let same : record { blocks = blocks } ≡ s = cc in
    ap (λ (t : Script). Ok t.blocks) same
blocks_ok (Err x) s e = absurd cc

blocks_err : (read : Blocks) (line : ℕ) (fault : ScriptFault) → script.script_from read ≡ Err (At line fault)
    → read ≡ Err (line, fault)
blocks_err (Ok blocks) line fault e = absurd cc
blocks_err (Err x) line fault e =
    let number : x.0 ≡ line = cc in
    let kind : x.1 ≡ fault = cc in
    ap (λ (n : ℕ). Err (n, x.1)) number ∙ ap (λ (f : ScriptFault). Err (line, f)) kind

module _ (bytes : List ℕ) (short : length bytes ≤ 1048576) (text : IsText bytes) where
  -- the script that was read
  pub read_ok : (number : ℕ) (s : Script) → outcome bytes ≡ Ok s
      → script_from (read_behind number (lines_of bytes)) ≡ Ok s
  unfolding read_behind
  read_ok number s e =
      ap (λ (b : Blocks). script_from (placed number (lines_of bytes) b))
      (blocks_ok (blocks_of (lines_of bytes)) s (sym (outcome_is bytes short text) ∙ e))

  fault_is : (line : ℕ) (fault : ScriptFault) → outcome bytes ≡ Err (At line fault)
      → blocks_of (lines_of bytes) ≡ Err (line, fault)
  fault_is line fault e =
      blocks_err (blocks_of (lines_of bytes)) line fault (sym (outcome_is bytes short text) ∙ e)

  -- the fault that was found
  pub read_err : (number line : ℕ) (fault : ScriptFault) → outcome bytes ≡ Err (At line fault)
      → script_from (read_behind number (lines_of bytes))
      ≡ Err (BoxAt (fault_line number (lines_of bytes) line fault) (OfScript fault))
  unfolding read_behind
  read_err number line fault e =
      ap (λ (b : Blocks). script_from (placed number (lines_of bytes) b)) (fault_is line fault e)

  pub fault_within : (line : ℕ) (fault : ScriptFault) → outcome bytes ≡ Err (At line fault)
      → line ≤ 1 + length (lines_of bytes)
  fault_within line fault e = (fault_lines (lines_of bytes) (line, fault) (fault_is line fault e)).1

-- what stopped the reading, where it isn't the memory
pub stopped_at : (stop : ScriptStop) (line : ℕ) (fault : ScriptFault) (bytes : List ℕ) → stop ≡ At line fault
    → script.HasFault bytes stop → outcome bytes ≡ Err (At line fault)
stopped_at stop line fault bytes e h = rw e at h
