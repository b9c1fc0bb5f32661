-- The lines of a block, with the exit that its end stands for, by the lines that it is written with.
use Rattle.std.proofs.Common.{◌≡◌, ◌∙◌, ℕ, ◌+◌, ◌-◌, ◌<◌, zero, suc, Bool, true, false, not, ◌&&◌, ◌||◌, nat_eq, List, [], ◌∷◌, length, Option, Some, None, refl, sym, ap, arith}
use Rattle.std.specs.Prelude.{slice_get, if◌then◌else◌}
use Rattle.std.specs.List.{list_all, list_any}
use Rattle.pico_base.specs.declared.script.Line.{Line}
use Rattle.pico_base.specs.declared.script.Block.{Block}
use Rattle.pico_base.specs.declared.script.Script.{Script}
use Rattle.kernel_model.specs.Script.{IsSoundScript, is_exit, with_exit, implied_exit, ends_rightly}
use Rattle.kernel_model.specs.Fitting.{block_at}
use Rattle.node_model.specs.Caller.{lines_in, lines_of}
use Rattle.node_calls.specs.Lines.{written_in, written_lines, written_count, is_exit_line}

-- A line that is reached is the written one, or the exit that the end stands for.

abbrev exit_or : Bool → Line → List Line → List Line
exit_or b line rest = if b then line ∷ [] else line ∷ rest

first_of : (b : Bool) (line : Line) (rest : List Line) → slice_get (exit_or b line rest) zero ≡ Some line
first_of true line rest = refl
first_of false line rest = refl

later_of : (b : Bool) (line : Line) (rest : List Line) (i : ℕ) (o : Option Line) → suc i < length (exit_or b line rest)
    → (i < length rest → slice_get rest i ≡ o) → slice_get (exit_or b line rest) (suc i) ≡ o
later_of true line rest i o within later = absurd (omega arith)
later_of false line rest i o within later = later (omega arith)

reached_line : (lines : List Line) (i : ℕ) (line : Line) → slice_get lines i ≡ Some line → i < length (with_exit lines)
    → slice_get (with_exit lines) i ≡ Some line
reached_line [] i line there within = absurd (cc)
reached_line (x ∷ xs) zero line there within = first_of (is_exit x.call) x (with_exit xs) ∙ there
reached_line (x ∷ xs) (suc i) line there within =
    later_of (is_exit x.call) x (with_exit xs) i (Some line) within (reached_line xs i line there)

reached_end : (lines : List Line) (i : ℕ) → slice_get lines i ≡ None → i < length (with_exit lines)
    → slice_get (with_exit lines) i ≡ Some implied_exit
reached_end [] zero there within = refl
reached_end [] (suc i) there within = absurd (omega arith)
reached_end (x ∷ xs) zero there within = absurd (cc)
reached_end (x ∷ xs) (suc i) there within =
    later_of (is_exit x.call) x (with_exit xs) i (Some implied_exit) within (reached_end xs i there)

written-line_in : (b : Option Block) (i : ℕ) (line : Line) → slice_get (written_in b) i ≡ Some line
    → i < length (lines_in b)
    → slice_get (lines_in b) i ≡ Some line
written-line_in None i line there within = absurd (omega arith)
written-line_in (Some block) i line there within = reached_line block.lines i line there within

written-end_in : (b : Option Block) (i : ℕ) → slice_get (written_in b) i ≡ None → i < length (lines_in b)
    → slice_get (lines_in b) i ≡ Some implied_exit
written-end_in None i there within = absurd (omega arith)
written-end_in (Some block) i there within = reached_end block.lines i there within

-- where a line is written at a place that can be reached, it is the line reached there
pub reached-written : (script : Script) (block i : ℕ) (line : Line)
    → slice_get (written_lines script block) i ≡ Some line
    → i < length (lines_of script block) → slice_get (lines_of script block) i ≡ Some line
reached-written script block i line there within = written-line_in (block_at script block) i line there within

-- where none is written at a place that can be reached, the exit that the end stands for is there
pub reached-implied : (script : Script) (block i : ℕ) → slice_get (written_lines script block) i ≡ None
    → i < length (lines_of script block) → slice_get (lines_of script block) i ≡ Some implied_exit
reached-implied script block i there within = written-end_in (block_at script block) i there within

-- the implied exit stands behind the last written line
behind_last : (lines : List Line) (i : ℕ) → slice_get lines i ≡ None → i < length (with_exit lines) → length lines ≡ i
behind_last [] zero there within = refl
behind_last [] (suc i) there within = absurd (omega arith)
behind_last (x ∷ xs) zero there within = absurd (cc)
behind_last (x ∷ xs) (suc i) there within =
    next_of (is_exit x.call) x (with_exit xs) i (length xs) within (behind_last xs i there)
  where
    next_of : (b : Bool) (line : Line) (rest : List Line) (i n : ℕ) → suc i < length (exit_or b line rest)
        → (i < length rest → n ≡ i) → suc n ≡ suc i
    next_of true line rest i n within later = absurd (omega arith)
    next_of false line rest i n within later = ap suc (later (omega arith))

behind_last_in : (b : Option Block) (i : ℕ) → slice_get (written_in b) i ≡ None → i < length (lines_in b)
    → length (written_in b) ≡ i
behind_last_in None i there within = absurd (omega arith)
behind_last_in (Some block) i there within = behind_last block.lines i there within

-- a place that can be reached and has no written line is right behind the last of them
pub implied-last : (script : Script) (block i : ℕ) → slice_get (written_lines script block) i ≡ None
    → i < length (lines_of script block) → length (written_lines script block) ≡ i
implied-last script block i there within = behind_last_in (block_at script block) i there within

-- as the code has it: own is the slice of the written lines
pub written-there : (lines own : List Line) (i : ℕ) (o : Option Line) → o ≡ slice_get own i → own ≡ lines
    → slice_get lines i ≡ o
written-there lines own i o there is = sym (there ∙ ap (λ (ls : List Line). slice_get ls i) is)

-- How many lines a block of a sound script has.

both : (a b : Bool) → (a && b) ≡ true → (a ≡ true) × (b ≡ true)
both true b h = (refl, h)
both false b h = absurd (cc)

some_left : (n : ℕ) → nat_eq (suc n) 0 ≡ true → ⊥
some_left n h = grind arith

not_both : (a : Bool) (n : ℕ) → (not a || nat_eq (suc n) 0) ≡ true → a ≡ false
not_both true n h = absurd (some_left n h)
not_both false n h = refl

with_end : Bool → ℕ → ℕ
with_end b n = if b then n else n + 1

grows : (b : Bool) (n : ℕ) → with_end b (suc n) ≡ suc (with_end b n)
unfolding with_end
grows true n = refl
grows false n = omega arith

one_line : (b : Bool) (line : Line) → with_end b 1 ≡ length (exit_or b line (implied_exit ∷ []))
unfolding with_end
one_line true line = refl
one_line false line = refl

counted_lines : (lines : List Line) → ends_rightly lines ≡ true
    → with_end (is_exit_line (slice_get lines (length lines - 1))) (length lines) ≡ length (with_exit lines)
unfolding with_end
counted_lines [] h = refl
counted_lines (x ∷ []) h = one_line (is_exit x.call) x
counted_lines (x ∷ y ∷ ys) h =
    let parts = both (not (is_exit x.call) || nat_eq (length (y ∷ ys)) 0) (ends_rightly (y ∷ ys)) h
    in let goes_on : is_exit x.call ≡ false = not_both (is_exit x.call) (length ys) parts.0
    in let last : length (x ∷ y ∷ ys) - 1 ≡ suc (length (y ∷ ys) - 1) = omega arith
    in let there : slice_get (x ∷ y ∷ ys) (length (x ∷ y ∷ ys) - 1) ≡ slice_get (y ∷ ys) (length (y ∷ ys) - 1) =
    ap (slice_get (x ∷ y ∷ ys)) last
    in ap (λ (o : Option Line). with_end (is_exit_line o) (length (x ∷ y ∷ ys))) there
    ∙ grows (is_exit_line (slice_get (y ∷ ys) (length (y ∷ ys) - 1))) (length (y ∷ ys))
    ∙ ap suc (counted_lines (y ∷ ys) parts.1)
    ∙ sym (ap (λ (b : Bool). length (exit_or b x (with_exit (y ∷ ys)))) goes_on)

ends_last : (blocks : List Block) (k : ℕ) (block : Block) → list_all (λ (b : Block). ends_rightly b.lines) blocks ≡ true
    → slice_get blocks k ≡ Some block → ends_rightly block.lines ≡ true
ends_last [] k block h there = absurd (cc)
ends_last (b ∷ blocks) zero block h there =
    let same : b ≡ block = cc
    in ap (λ (x : Block). ends_rightly x.lines) (sym same)
    ∙ (both (ends_rightly b.lines) (list_all (λ (x : Block). ends_rightly x.lines) blocks) h).0
ends_last (b ∷ blocks) (suc k) block h there =
    ends_last blocks k block
    (both (ends_rightly b.lines) (list_all (λ (x : Block). ends_rightly x.lines) blocks) h).1 there

-- as the code has it: own is the slice of the block's lines
pub count-is : (script : Script) (node n : ℕ) (block : Block) (own : List Line) → IsSoundScript script
    → Some block ≡ block_at script node
    → own ≡ block.lines → n ≡ written_count own → n ≡ length (lines_of script node)
unfolding with_end
count-is script node n block own sound there is count =
    let right : ends_rightly block.lines ≡ true = ends_last script.blocks (node - 1) block sound.exits (sym there)
    in count ∙ ap written_count is ∙ counted_lines block.lines right
    ∙ ap (λ (b : Option Block). length (lines_in b)) there
