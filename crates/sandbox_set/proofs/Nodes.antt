-- Counting the nodes of a script.
use Rattle.std.proofs.Common.{◌≡◌, ℕ, suc, ◌+◌, ◌<◌, ◌≤◌, List, [], ◌∷◌, length, Some, None, Result, Ok, Err, refl, sym, ap, ◌∙◌, arith}
use Rattle.script_reader.specs.Words.{lines_of}
use Rattle.sandbox_set.specs.Parts.{nodes_behind, nodes_with, one_more}

-- behind so many lines
abbrev pub from_line : ℕ → Result ℕ ℕ → Result ℕ ℕ
from_line lines (Ok nodes) = Ok nodes
from_line lines (Err before) = Err (lines + before)

-- so many lines were passed, and so many nodes there are
pub record AreCounted (before : ℕ) (script : List ℕ) (nodes lines : ℕ) (rest : List ℕ) : Type 0 where
  pub same : nodes_with before (lines_of script) ≡ from_line lines (nodes_with nodes (lines_of rest))
  pub few : nodes ≤ 32
  pub count : lines + length (lines_of rest) ≡ length (lines_of script)
  pub room : lines + length rest ≤ length script

from_first : (r : Result ℕ ℕ) → r ≡ from_line 0 r
from_first (Ok nodes) = refl
from_first (Err before) =
    let e : before ≡ 0 + before = omega arith in
    ap (λ (n : ℕ). Err n) e

pub counted_start : (before : ℕ) (script : List ℕ) → before ≤ 32 → AreCounted before script before 0 script
counted_start before script few =
    record {
      same = from_first (nodes_with before (lines_of script));
      few = few;
      count = omega arith;
      room = omega arith;
    }

from_next : (lines : ℕ) (r : Result ℕ ℕ) → from_line lines (one_more r) ≡ from_line (lines + 1) r
from_next lines (Ok nodes) = refl
from_next lines (Err before) =
    let e : lines + (before + 1) ≡ lines + 1 + before = omega arith in
    ap (λ (n : ℕ). Err n) e

module _ (before : ℕ) (script : List ℕ) (nodes lines : ℕ) (rest : List ℕ)
    (h : AreCounted before script nodes lines rest)
    (line after : List ℕ) (is : lines_of rest ≡ line ∷ lines_of after) where
  -- behind one line more
  pub counted_next : (more : ℕ) → length after < length rest → nodes_behind nodes line ≡ Some more → more ≤ 32
      → AreCounted before script more (lines + 1) after
  counted_next more shorter e few =
      let step : nodes_with nodes (lines_of rest) ≡ one_more (nodes_with more (lines_of after)) = rw (is, e) refl in
      let size : length (lines_of rest) ≡ suc (length (lines_of after)) = ap length is in
      record {
        same = h.same ∙ ap (from_line lines) step ∙ from_next lines (nodes_with more (lines_of after));
        few = few;
        count = omega (arith, h.count, size);
        room = omega (arith, h.room, shorter);
      }

  -- at the node that is one too many
  pub counted_many : nodes_behind nodes line ≡ None → Err lines ≡ nodes_with before (lines_of script)
  counted_many e =
      let step : nodes_with nodes (lines_of rest) ≡ Err 0 = rw (is, e) refl in
      let n : lines + 0 ≡ lines = omega arith in
      sym (h.same ∙ ap (from_line lines) step ∙ ap (λ (k : ℕ). Err k) n)

  pub within_here : lines ≤ length (lines_of script)
  within_here = omega (arith, h.count)

-- where no line is left
pub counted_end : (before : ℕ) (script : List ℕ) (nodes lines : ℕ) (rest : List ℕ)
    → AreCounted before script nodes lines rest → lines_of rest ≡ [] → Ok nodes ≡ nodes_with before (lines_of script)
counted_end before script nodes lines rest h none =
    sym (h.same ∙ ap (λ ls. from_line lines (nodes_with nodes ls)) none)
