-- How many calls a block may come to, with all that it forks, in a sound script: never more than the script has.
use Rattle.std.proofs.Common.{◌≡◌, ℕ, zero, suc, ◌+◌, ◌-◌, ◌≤◌, ◌<◌, Bool, true, false, List, [], ◌∷◌, ◌++◌, map, flat_map, Option, Some, None, refl, ap, sym, subst, ◌∙◌, arith}
use Rattle.std.specs.Prelude.{if◌then◌else◌, slice_get}
use Rattle.std.specs.List.{AllByRecursion, list_all, enumerate_from}
use Rattle.std.proofs.lemmas.Bool.{and_parts, leb-true, ltb-true}
use Rattle.std.proofs.lemmas.List.Folds.{list_all-append}
use Rattle.std.proofs.lemmas.Option.{slice_get_within}
use Rattle.pico_base.specs.declared.script.Block.{Block}
use Rattle.pico_base.specs.declared.script.Line.{Line}
use Rattle.pico_base.specs.declared.script.Script.{Script}
use Rattle.kernel_model.specs.Fitting.{block_at}
use Rattle.kernel_model.specs.Script.{Fork, IsSoundScript, fork_from, fork_targets, goes_forward, is_exit, with_exit}
use Rattle.node_model.specs.Caller.{lines_in, lines_of}
use Rattle.world_model.specs.World.{node_count}
use Rattle.bound_laws.proofs.Totals.{total}

-- ---- what lines cost, where it is known what each block does

-- a line's tries, at least one, and all of the block that it forks
abbrev pub line_cost : (ℕ → ℕ) → Line → ℕ
line_cost block_cost line = suc (line.tries - 1) + total block_cost (fork_targets line.call)

-- all of these lines
abbrev pub lines_cost : (ℕ → ℕ) → List Line → ℕ
lines_cost block_cost lines = total (line_cost block_cost) lines

-- what a block costs, to this depth of forks
abbrev pub cost_to : Script → ℕ → ℕ → ℕ
cost_to script zero block = 0
cost_to script (suc depth) block = lines_cost (cost_to script depth) (lines_of script block)

-- what a block costs: no fork is deeper than there are blocks
abbrev pub cost : Script → ℕ → ℕ
cost script = cost_to script (suc (node_count script))

-- ---- where lines fork to

-- each block that lines fork is so
abbrev pub TargetsAre : (ℕ → Type 0) → List Line → Type 0
TargetsAre P lines = AllByRecursion (λ line. AllByRecursion P (fork_targets line.call)) lines

same-total : (P : ℕ → Type 0) (f g : ℕ → ℕ) → ((x : ℕ) → P x → f x ≡ g x) → (xs : List ℕ) → AllByRecursion P xs
    → total f xs ≡ total g xs
same-total P f g h [] all = refl
same-total P f g h (x ∷ xs) all =
    let here = h x all.0
    in let rest = same-total P f g h xs all.1
    in omega (arith, here, rest)

same-cost : (P : ℕ → Type 0) (f g : ℕ → ℕ) → ((x : ℕ) → P x → f x ≡ g x) → (lines : List Line) → TargetsAre P lines
    → lines_cost f lines ≡ lines_cost g lines
same-cost P f g h [] all = refl
same-cost P f g h (line ∷ lines) all =
    let here = same-total P f g h (fork_targets line.call) all.0
    in let rest = same-cost P f g h lines all.1
    in omega (arith, here, rest)

targets-with-exit : (P : ℕ → Type 0) (lines : List Line) → TargetsAre P lines → TargetsAre P (with_exit lines)
targets-with-exit P [] all = (tt, tt)
targets-with-exit P (line ∷ lines) all = by (is_exit line.call) (targets-with-exit P lines all.1)
  where
    by : (b : Bool) → TargetsAre P (with_exit lines) → TargetsAre P (if b then line ∷ [] else line ∷ with_exit lines)
    by true rest = (all.0, tt)
    by false rest = (all.0, rest)

-- the blocks that lines, and blocks, fork
abbrev pub tos_of : List Line → List ℕ
tos_of lines = flat_map (λ line. fork_targets line.call) lines

-- the same for blocks
abbrev pub all_tos : List Block → List ℕ
all_tos blocks = flat_map (λ block. tos_of block.lines) blocks

-- the forks to these blocks from one, and those of blocks by number
abbrev pub forks_in : ℕ → List ℕ → List Fork
forks_in k tos = map (fork_from k) tos

-- those of all blocks, from this number on
abbrev pub forks_from : ℕ → List Block → List Fork
forks_from k blocks = flat_map (λ b. forks_in b.0 (tos_of b.1.lines)) (enumerate_from k blocks)

-- ---- forks go forward

module _ (script : Script) where
  abbrev count : ℕ
  count = node_count script

  -- behind this block, and of the script
  abbrev pub IsBehind : ℕ → ℕ → Type 0
  IsBehind k block = (k < block) × (block ≤ count)

  behind-all : (k : ℕ) (tos : List ℕ) → list_all (goes_forward script) (forks_in k tos) ≡ true
      → AllByRecursion (IsBehind k) tos
  behind-all k [] h = tt
  behind-all k (to ∷ tos) h =
      let both = and_parts (goes_forward script (fork_from k to)) (list_all (goes_forward script) (forks_in k tos)) h
      in let parts = and_parts _ _ both.0
      in ((ltb-true k to parts.0, leb-true to count parts.1), behind-all k tos both.1)

  in-front : (P : ℕ → Type 0) (xs ys : List ℕ) → AllByRecursion P (xs ++ ys)
      → AllByRecursion P xs × AllByRecursion P ys
  in-front P [] ys all = (tt, all)
  in-front P (x ∷ xs) ys all = let rest = in-front P xs ys all.1 in ((all.0, rest.0), rest.1)

  -- what all forks of lines are, those of each line are
  pub targets-of-tos : (P : ℕ → Type 0) (lines : List Line) → AllByRecursion P (tos_of lines) → TargetsAre P lines
  targets-of-tos P [] all = tt
  targets-of-tos P (line ∷ lines) all =
      let parts = in-front P (fork_targets line.call) (tos_of lines) all
      in (parts.0, targets-of-tos P lines parts.1)

  parts-of : (k : ℕ) (b : Block) (blocks : List Block)
      → list_all (goes_forward script) (forks_from k (b ∷ blocks)) ≡ true
      → (list_all (goes_forward script) (forks_in k (tos_of b.lines)) ≡ true)
      × (list_all (goes_forward script) (forks_from (k + 1) blocks) ≡ true)
  parts-of k b blocks h =
      and_parts (list_all (goes_forward script) (forks_in k (tos_of b.lines)))
      (list_all (goes_forward script) (forks_from (k + 1) blocks))
      (sym (list_all-append (goes_forward script) (forks_in k (tos_of b.lines)) (forks_from (k + 1) blocks)) ∙ h)

  -- each block of a script whose forks go forward forks blocks behind it
  pub forward-from : (k : ℕ) (blocks : List Block) → list_all (goes_forward script) (forks_from k blocks) ≡ true
      → (i : ℕ) (block : Block) → slice_get blocks i ≡ Some block
      → AllByRecursion (IsBehind (k + i)) (tos_of block.lines)
  forward-from k [] h i block is = absurd (cc)
  forward-from k (b ∷ blocks) h zero block is =
      let same : b ≡ block = cc
      in let here : k ≡ k + zero = omega arith
      in subst (λ (x : Block). AllByRecursion (IsBehind (k + zero)) (tos_of x.lines)) same
      (subst (λ n. AllByRecursion (IsBehind n) (tos_of b.lines)) here
      (behind-all k (tos_of b.lines) (parts-of k b blocks h).0))
  forward-from k (b ∷ blocks) h (suc i) block is =
      let same : k + 1 + i ≡ k + suc i = omega arith
      in subst (λ n. AllByRecursion (IsBehind n) (tos_of block.lines)) same
      (forward-from (k + 1) blocks (parts-of k b blocks h).1 i block is)

  -- so all that they fork is behind the first of them
  pub all-behind : (k : ℕ) (blocks : List Block) → list_all (goes_forward script) (forks_from k blocks) ≡ true
      → AllByRecursion (IsBehind k) (all_tos blocks)
  all-behind k [] h = tt
  all-behind k (b ∷ blocks) h =
      let parts = parts-of k b blocks h
      in both (tos_of b.lines) (all_tos blocks) (behind-all k (tos_of b.lines) parts.0)
      (lower (all_tos blocks) (all-behind (k + 1) blocks parts.1))
    where
      lower : (tos : List ℕ) → AllByRecursion (IsBehind (k + 1)) tos → AllByRecursion (IsBehind k) tos
      lower [] all = tt
      lower (to ∷ tos) all = let low = all.0.0 in ((omega (arith, low), all.0.1), lower tos all.1)

      both : (xs ys : List ℕ) → AllByRecursion (IsBehind k) xs → AllByRecursion (IsBehind k) ys
          → AllByRecursion (IsBehind k) (xs ++ ys)
      both [] ys a c = c
      both (x ∷ xs) ys a c = (a.0, both xs ys a.1 c)

-- ---- a sound script

module _ (script : Script) (sound : IsSoundScript script) where
  -- A block forks only blocks behind it.
  targets-in : (block : ℕ) (o : Option Block) → block_at script block ≡ o
      → TargetsAre (IsBehind script (1 + (block - 1))) (lines_in o)
  targets-in block None is = tt
  targets-in block (Some b) is =
      targets-with-exit (IsBehind script (1 + (block - 1))) b.lines
      (targets-of-tos script (IsBehind script (1 + (block - 1))) b.lines
      (forward-from script 1 script.blocks sound.forward (block - 1) b is))

  -- the lines of a block, with the exit that ends it, fork blocks behind it
  pub targets-are-behind : (block : ℕ) → TargetsAre (IsBehind script (1 + (block - 1))) (lines_of script block)
  targets-are-behind block = targets-in block (block_at script block) refl

  none-past : (block : ℕ) (o : Option Block) → block_at script block ≡ o → node_count script < block → lines_in o ≡ []
  none-past block None is past = refl
  none-past block (Some b) is past =
      let within = slice_get_within script.blocks (block - 1) b is
      in absurd (omega (arith, within, past))

  cost-past : (depth block : ℕ) → node_count script < block → cost_to script depth block ≡ 0
  cost-past zero block past = refl
  cost-past (suc depth) block past =
      ap (lines_cost (cost_to script depth)) (none-past block (block_at script block) refl past)

  cost-settles : (f g block : ℕ) → 1 ≤ block → node_count script < f + block → node_count script < g + block
      → cost_to script f block ≡ cost_to script g block
  cost-settles zero g block low deep deeper = sym (cost-past g block (omega (arith, deep)))
  cost-settles (suc f) zero block low deep deeper = cost-past (suc f) block (omega (arith, deeper))
  cost-settles (suc f) (suc g) block low deep deeper =
      same-cost (IsBehind script (1 + (block - 1))) (cost_to script f) (cost_to script g)
      (λ to h.
      let behind = h.0
      in cost-settles f g to (omega (arith, behind)) (omega (arith, behind, low, deep))
      (omega (arith, behind, low, deeper)))
      (lines_of script block) (targets-are-behind block)

  -- A block costs what its lines cost.
  pub cost-is : (block : ℕ) → lines_cost (cost script) (lines_of script block) ≡ cost script block
  cost-is block =
      same-cost (IsBehind script (1 + (block - 1))) (cost script) (cost_to script (node_count script))
      (λ to h.
      let behind = h.0
      in cost-settles (suc (node_count script)) (node_count script) to (omega (arith, behind))
      (omega (arith, behind)) (omega (arith, behind)))
      (lines_of script block) (targets-are-behind block)
