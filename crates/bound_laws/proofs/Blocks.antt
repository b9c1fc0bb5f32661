-- Block 1 of a sound script, with all that it forks, comes to no more calls than the script has.
use Rattle.std.proofs.Common.{◌≡◌, ℕ, zero, suc, ◌+◌, ◌-◌, ◌≤◌, ◌<◌, Bool, true, false, ◌||◌, nat_eq, List, [], ◌∷◌, ◌++◌, length, map, Some, refl, ap, sym, subst, ◌∙◌, arith}
use Rattle.std.specs.Prelude.{if◌then◌else◌, slice_get, sum_by, count_by, nat_le}
use Rattle.std.specs.List.{AllByRecursion, list_all, enumerate_from}
use Rattle.std.proofs.lemmas.Bool.{and_parts, eqb-true, leb-true, ne_eqb}
use Rattle.std.proofs.lemmas.List.{map-append}
use Rattle.pico_base.specs.declared.script.Block.{Block}
use Rattle.pico_base.specs.declared.script.Line.{Line}
use Rattle.pico_base.specs.declared.script.Script.{Script}
use Rattle.kernel_model.specs.Numbers.{is_between}
use Rattle.kernel_model.specs.Script.{Fork, IsSoundScript, calls_in, fork_targets, forks_of, is_exit, is_forked_once, is_line, max_calls, with_exit}
use Rattle.node_model.specs.Caller.{lines_in, lines_of}
use Rattle.bound_laws.proofs.Costs.{all-behind, all_tos, cost, cost-is, forks_from, forks_in, lines_cost, tos_of}
use Rattle.bound_laws.proofs.Totals.{ranged, times, times-is-count, total, total-append, total-is-sum, total-ranged}

-- ---- each line is tried once at least

line-tries : (line : Line) → is_line line ≡ true → 1 ≤ line.tries
line-tries line h =
    leb-true 1 line.tries
    (and_parts (nat_le 1 line.tries) (nat_le line.tries max_calls)
    (and_parts (is_between 1 max_calls line.tries) _ h).0).0

-- each is tried once at least
abbrev pub AreTried : List Line → Type 0
AreTried lines = AllByRecursion (λ line. 1 ≤ line.tries) lines

-- Each line in a block in range is tried once at least, and so is the exit that ends it.
pub tries-with-exit : (lines : List Line) → list_all is_line lines ≡ true → AreTried (with_exit lines)
tries-with-exit [] h = (omega arith, tt)
tries-with-exit (line ∷ lines) h =
    let parts = and_parts (is_line line) (list_all is_line lines) h
    in by (is_exit line.call) (line-tries line parts.0) (tries-with-exit lines parts.1)
  where
    by : (b : Bool) → 1 ≤ line.tries → AreTried (with_exit lines)
        → AreTried (if b then line ∷ [] else line ∷ with_exit lines)
    by true here rest = (here, tt)
    by false here rest = (here, rest)

-- ---- a block

split-cost : (block_cost : ℕ → ℕ) (lines : List Line) → AreTried lines
    → lines_cost block_cost lines ≡ total (λ line. line.tries) lines + total block_cost (tos_of lines)
split-cost block_cost [] tried = refl
split-cost block_cost (line ∷ lines) tried =
    let rest = split-cost block_cost lines tried.1
    in let forks = total-append block_cost (fork_targets line.call) (tos_of lines)
    in let some = tried.0
    in omega (arith, rest, forks, some)

tos-with-exit : (block_cost : ℕ → ℕ) (lines : List Line)
    → total block_cost (tos_of (with_exit lines)) ≤ total block_cost (tos_of lines)
tos-with-exit block_cost [] = omega arith
tos-with-exit block_cost (line ∷ lines) = by (is_exit line.call) (tos-with-exit block_cost lines)
  where
    by : (b : Bool) → total block_cost (tos_of (with_exit lines)) ≤ total block_cost (tos_of lines)
        → total block_cost (tos_of (if b then line ∷ [] else line ∷ with_exit lines))
        ≤ total block_cost (tos_of (line ∷ lines))
    by true rest =
        let one = total-append block_cost (fork_targets line.call) []
        in let all = total-append block_cost (fork_targets line.call) (tos_of lines)
        in omega (arith, one, all)
    by false rest =
        let one = total-append block_cost (fork_targets line.call) (tos_of (with_exit lines))
        in let all = total-append block_cost (fork_targets line.call) (tos_of lines)
        in omega (arith, one, all, rest)

block-cost : (block_cost : ℕ → ℕ) (block : Block) → list_all is_line block.lines ≡ true
    → lines_cost block_cost (with_exit block.lines) ≤ calls_in block + total block_cost (tos_of block.lines)
block-cost block_cost block h =
    let parts = split-cost block_cost (with_exit block.lines) (tries-with-exit block.lines h)
    in let calls = total-is-sum (λ (line : Line). line.tries) (with_exit block.lines)
    in let less = tos-with-exit block_cost block.lines
    in omega (arith, parts, calls, less)

-- ---- all blocks

blocks-cost : (block_cost : ℕ → ℕ) (k : ℕ) (blocks : List Block)
    → list_all (λ (b : Block). list_all is_line b.lines) blocks ≡ true
    → ((i : ℕ) (block : Block) → slice_get blocks i ≡ Some block
    → block_cost (k + i) ≡ lines_cost block_cost (with_exit block.lines))
    → ranged block_cost k (length blocks) ≤ total calls_in blocks + total block_cost (all_tos blocks)
blocks-cost block_cost k [] lines each = omega arith
blocks-cost block_cost k (b ∷ blocks) lines each =
    let parts = and_parts (list_all is_line b.lines) (list_all (λ (c : Block). list_all is_line c.lines) blocks) lines
    in let zero-is : k ≡ k + 0 = omega arith
    in let here : block_cost k ≡ lines_cost block_cost (with_exit b.lines) = ap block_cost zero-is ∙ each 0 b refl
    in let less = block-cost block_cost b parts.0
    in let rest =
    blocks-cost block_cost (k + 1) blocks parts.1
    (λ i block is.
    let same : k + 1 + i ≡ k + suc i = omega arith
    in ap block_cost same ∙ each (suc i) block is)
    in let both = total-append block_cost (tos_of b.lines) (all_tos blocks)
    in omega (arith, here, less, rest, both)

-- ---- no block is forked twice

tos-of-forks : (k : ℕ) (tos : List ℕ) → map (λ (f : Fork). f.to) (forks_in k tos) ≡ tos
tos-of-forks k [] = refl
tos-of-forks k (to ∷ tos) = ap (λ ts. to ∷ ts) (tos-of-forks k tos)

tos-are : (k : ℕ) (blocks : List Block) → map (λ (f : Fork). f.to) (forks_from k blocks) ≡ all_tos blocks
tos-are k [] = refl
tos-are k (b ∷ blocks) =
    map-append (λ (f : Fork). f.to) (forks_in k (tos_of b.lines)) (forks_from (k + 1) blocks)
    ∙ ap (λ ts. ts ++ map (λ (f : Fork). f.to) (forks_from (k + 1) blocks)) (tos-of-forks k (tos_of b.lines))
    ∙ ap (λ ts. tos_of b.lines ++ ts) (tos-are (k + 1) blocks)

all-numbered : {X : Type 0} (test : ℕ → Bool) (n : ℕ) (xs : List X) (i : ℕ)
    → list_all (λ e. test e.0) (enumerate_from n xs) ≡ true → i < length xs → test (n + i) ≡ true
all-numbered test n [] i all h = absurd (omega (arith, h))
all-numbered test n (x ∷ xs) zero all h =
    let same : n ≡ n + zero = omega arith
    in subst (λ m. test m ≡ true) same (and_parts (test n) (list_all (λ e. test e.0) (enumerate_from (n + 1) xs)) all).0
all-numbered test n (x ∷ xs) (suc i) all h =
    let same : n + 1 + i ≡ n + suc i = omega arith
    in subst (λ m. test m ≡ true) same
    (all-numbered test (n + 1) xs i (and_parts (test n) (list_all (λ e. test e.0) (enumerate_from (n + 1) xs)) all).1
    (omega (arith, h)))

module _ (script : Script) (sound : IsSoundScript script) where
  forked-once : (block : ℕ) → 2 ≤ block → block < 1 + length script.blocks → times block (all_tos script.blocks) ≤ 1
  forked-once block low high =
      let here : (nat_eq (1 + (block - 1)) 1 || is_forked_once script (1 + (block - 1))) ≡ true =
      all-numbered (λ n. nat_eq n 1 || is_forked_once script n) 1 script.blocks (block - 1) sound.forked_once
      (omega (arith, low, high))
      in let same : 1 + (block - 1) ≡ block = omega (arith, low)
      in let once : is_forked_once script block ≡ true =
      sym (ap (λ t. t || is_forked_once script block) (ne_eqb block 1 (λ e. omega (arith, e, low))))
      ∙ subst (λ n. (nat_eq n 1 || is_forked_once script n) ≡ true) same here
      in let counted = eqb-true (count_by (λ (f : Fork). nat_eq f.to block) (forks_of script)) 1 once
      in let is : times block (all_tos script.blocks) ≡ count_by (λ (f : Fork). nat_eq f.to block) (forks_of script) =
      sym (ap (times block) (tos-are 1 script.blocks)) ∙ times-is-count (λ (f : Fork). f.to) block (forks_of script)
      in omega (arith, counted, is)

  -- what is behind block 1 is a later block
  later : (n : ℕ) (tos : List ℕ) → AllByRecursion (λ to. (1 < to) × (to ≤ n)) tos → 1 ≤ n
      → AllByRecursion (λ to. (2 ≤ to) × (to < 2 + (n - 1))) tos
  later n [] all some = tt
  later n (to ∷ tos) all some =
      let low = all.0.0
      in let high = all.0.1
      in ((omega (arith, low), omega (arith, high, some)), later n tos all.1 some)

  -- The first block costs no more than all the calls of the script.
  pub first-cost : cost script 1 ≤ sum_by calls_in script.blocks
  first-cost =
      let some = leb-true 1 (length script.blocks) (and_parts (nat_le 1 (length script.blocks)) _ sound.size).0
      in let all =
      blocks-cost (cost script) 1 script.blocks sound.lines (λ i block is.
      sym (cost-is script sound (1 + i))
      ∙ block-is i block is)
      in let forked =
      total-ranged (cost script) (length script.blocks - 1) 2 (all_tos script.blocks)
      (later (length script.blocks) (all_tos script.blocks) (all-behind script 1 script.blocks sound.forward) some)
      (λ c low high. forked-once c low (omega (arith, high, some)))
      in let first : ranged (cost script) 1 (length script.blocks)
      ≡ cost script 1 + ranged (cost script) 2 (length script.blocks - 1) = by-count (length script.blocks) some
      in let sums = total-is-sum calls_in script.blocks
      in omega (arith, all, forked, first, sums)
    where
      block-is : (i : ℕ) (block : Block) → slice_get script.blocks i ≡ Some block
          → lines_cost (cost script) (lines_of script (1 + i)) ≡ lines_cost (cost script) (with_exit block.lines)
      block-is i block is =
          let same : 1 + i - 1 ≡ i = omega arith
          in ap (λ n. lines_cost (cost script) (lines_in (slice_get script.blocks n))) same
          ∙ ap (λ o. lines_cost (cost script) (lines_in o)) is

      by-count : (n : ℕ) → 1 ≤ n
          → ranged (cost script) 1 n ≡ cost script 1 + ranged (cost script) 2 (n - 1)
      by-count zero h = absurd (omega (arith, h))
      by-count (suc n) h =
          let same : suc n - 1 ≡ n = omega arith
          in ap (λ m. cost script 1 + ranged (cost script) 2 m) (sym same)
