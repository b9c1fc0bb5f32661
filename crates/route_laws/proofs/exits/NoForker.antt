-- In a sound script a block forks only later blocks, so no node forks the first one, and no process is the parent of
-- process 1.
use Rattle.std.proofs.Common.{◌≡◌, ℕ, zero, suc, ◌+◌, ◌-◌, ◌<◌, Bool, true, false, ◌&&◌, if◌then◌else◌, List, [], ◌∷◌, ◌++◌, length, map, flat_map, Option, Some, None, refl, ap, sym, ◌∙◌, inl, inr, arith}
use Rattle.std.specs.Prelude.{slice_get, nat_lt, nat_le}
use Rattle.std.specs.List.{list_all, list_any, enumerate_from}
use Rattle.std.proofs.lemmas.Bool.{or_cases, eqb-true, ltb-true, false≢true}
use Rattle.pico_base.specs.declared.call.Call.{Call}
use Rattle.pico_base.specs.declared.call.Call.TheVariants as calls
use Rattle.pico_base.specs.declared.script.Block.{Block}
use Rattle.pico_base.specs.declared.script.Line.{Line}
use Rattle.pico_base.specs.declared.script.Script.{Script}
use Rattle.kernel_model.specs.Fitting.{block_at}
use Rattle.kernel_model.specs.Script.{Fork, IsSoundScript, fork_from, fork_targets, goes_forward}
use Rattle.world_model.specs.Lives.{forks_in, is_forked_by, names_block}
use Rattle.world_model.specs.World.{numbers, node_count}
use Rattle.world_laws.specs.Names.{first_that, forker}

both : (p q : Bool) → (p && q) ≡ true → (p ≡ true) × (q ≡ true)
both true q h = (refl, h)
both false q h = absurd (false≢true h)

all-both : {X : Type 0} (test : X → Bool) (xs ys : List X) → list_all test (xs ++ ys) ≡ true
    → (list_all test xs ≡ true) × (list_all test ys ≡ true)
all-both test [] ys h = (refl, h)
all-both test (x ∷ xs) ys h =
    let parts = both (test x) (list_all test (xs ++ ys)) h
    in let rest = all-both test xs ys parts.1
    in (ap (λ t. t && list_all test xs) parts.0 ∙ rest.0, rest.1)

map-both : {X Y : Type 0} (f : X → Y) (xs ys : List X) → map f (xs ++ ys) ≡ map f xs ++ map f ys
map-both f [] ys = refl
map-both f (x ∷ xs) ys = ap (λ zs. f x ∷ zs) (map-both f xs ys)

-- the forks of a line
abbrev line_forks : ℕ → Line → List Fork
line_forks k line = map (fork_from k) (fork_targets line.call)

abbrev lines_forks : ℕ → List Line → List Fork
lines_forks k lines = map (fork_from k) (flat_map (λ line. fork_targets line.call) lines)

line-forward : (s : Script) (k c : ℕ) (call : Call)
    → list_all (goes_forward s) (map (fork_from k) (fork_targets call)) ≡ true → names_block c call ≡ true → k < c
line-forward s k c (calls.Fork to) all names =
    let parts = both (goes_forward s (fork_from k to)) true all
    in let forward = both (nat_lt k to) (nat_le to (length s.blocks)) parts.0
    in let up : k < to = ltb-true k to forward.0
    in let same : to ≡ c = eqb-true to c names
    in omega (arith, up, same)
line-forward s k c call all names = absurd (false≢true names)

lines-forward : (s : Script) (k c : ℕ) (lines : List Line) → list_all (goes_forward s) (lines_forks k lines) ≡ true
    → list_any (λ line. names_block c line.call) lines ≡ true → k < c
lines-forward s k c [] all names = absurd (false≢true names)
lines-forward s k c (line ∷ lines) all names =
    let parts = all-both (goes_forward s) (line_forks k line) (lines_forks k lines)
    (sym (ap (list_all (goes_forward s)) (map-both (fork_from k) (fork_targets line.call)
    (flat_map (λ l. fork_targets l.call) lines))) ∙ all)
    in elim (or_cases (names_block c line.call) (list_any (λ l. names_block c l.call) lines) names) [
      | inl here ↦ line-forward s k c line.call parts.0 here
      | inr later ↦ lines-forward s k c lines parts.1 later
    ]

blocks-forward : (s : Script) (k c : ℕ) (blocks : List Block)
    → list_all (goes_forward s) (flat_map (λ b. lines_forks b.0 b.1.lines) (enumerate_from k blocks)) ≡ true → (i : ℕ)
    (b : Block) → slice_get blocks i ≡ Some b → list_any (λ line. names_block c line.call) b.lines ≡ true → k + i < c
blocks-forward s k c [] all i b there names = absurd (cc)
blocks-forward s k c (x ∷ blocks) all zero b there names =
    let same : x ≡ b = cc
    in let parts = all-both (goes_forward s) (lines_forks k x.lines)
    (flat_map (λ b. lines_forks b.0 b.1.lines) (enumerate_from (k + 1) blocks)) all
    in let up : k < c =
    lines-forward s k c x.lines parts.0
    (ap (λ (y : Block). list_any (λ line. names_block c line.call) y.lines) same ∙ names)
    in omega (arith, up)
blocks-forward s k c (x ∷ blocks) all (suc i) b there names =
    let parts = all-both (goes_forward s) (lines_forks k x.lines)
    (flat_map (λ b. lines_forks b.0 b.1.lines) (enumerate_from (k + 1) blocks)) all
    in let up : k + 1 + i < c = blocks-forward s (k + 1) c blocks parts.1 i b there names
    in omega (arith, up)

-- a block that is forked stands behind the one that forks it
forked-behind : (s : Script) (p c : ℕ) → IsSoundScript s → is_forked_by s p c ≡ true → 1 + (p - 1) < c
forked-behind s p c sound h = by-block (block_at s p) refl h
  where
    by-block : (o : Option Block) → block_at s p ≡ o → forks_in c o ≡ true → 1 + (p - 1) < c
    by-block None is names = absurd (false≢true names)
    by-block (Some b) is names = blocks-forward s 1 c s.blocks sound.forward (p - 1) b is names

first-tests : (test : ℕ → Bool) (ns : List ℕ) → ((n : ℕ) → test n ≡ false) → first_that test ns ≡ 0
first-tests test [] none = refl
first-tests test (n ∷ ns) none =
    ap (λ t. if t then n else first_that test ns) (none n) ∙ first-tests test ns none

-- So no node forks the first block.
pub first-has-no-forker : (s : Script) → IsSoundScript s → forker s 1 ≡ 0
first-has-no-forker s sound =
    first-tests (λ p. is_forked_by s p 1) (numbers 1 (node_count s)) (λ p. not-by p (is_forked_by s p 1) refl)
  where
    not-by : (p : ℕ) (t : Bool) → is_forked_by s p 1 ≡ t → is_forked_by s p 1 ≡ false
    not-by p false e = e
    not-by p true e = let behind = forked-behind s p 1 sound e in absurd (omega (arith, behind))
