-- Which block forks which: a sound script forks a block only from one before it, and from one alone.
use Rattle.std.proofs.Common.{◌≡◌, ◌≢◌, ℕ, zero, suc, ◌+◌, ◌-◌, ◌<◌, ◌≤◌, Bool, true, false, not, ◌||◌, ◌&&◌, if◌then◌else◌, nat_eq, nat_lt, List, [], ◌∷◌, ◌++◌, length, map, drop, slice_get, Option, Some, None, refl, ap, sym, subst, ◌∙◌, inl, inr, arith}
use Rattle.std.specs.List.{list_all, list_any, flat_map, enumerate_from}
use Rattle.std.proofs.lemmas.Bool.{cases_eq, eqb-true, ltb-true, leb-true, or_cases, or_left, or_right, false≢true}
use Rattle.std.proofs.lemmas.List.Folds.{list_all-append}
use Rattle.std.proofs.lemmas.Option.{slice_get_within}
use Rattle.pico_base.specs.declared.call.Call.{Call}
use Rattle.pico_base.specs.declared.call.Call.TheVariants as calls
use Rattle.pico_base.specs.declared.script.Block.{Block}
use Rattle.pico_base.specs.declared.script.Line.{Line}
use Rattle.pico_base.specs.declared.script.Script.{Script}
use Rattle.kernel_model.specs.Fitting.{block_at}
use Rattle.kernel_model.specs.Script.{Fork, IsSoundScript, ends_rightly, fork_from, fork_targets, goes_forward, is_exit, with_exit}
use Rattle.entry_laws.proofs.ForkedOnce.{fork-block-once, forks_block, forks_in_line}
use Rattle.node_model.specs.Caller.{caller_place, lines_in, lines_of, new_caller}
use Rattle.world_model.specs.Lives.{forks_in, is_forked_by, names_block}
use Rattle.world_model.specs.World.{node_count, numbers}
use Rattle.world_laws.specs.Names.{first_that, forker}

-- ---- the lines of a block

-- the line forks this block
abbrev pub names_in_line : ℕ → Line → Bool
names_in_line block line = names_block block line.call

-- both tests of a line are one
pub same-test : (block : ℕ) (call : Call) → names_block block call ≡ forks_block block call
same-test block (calls.Fork to) = refl
same-test block call = refl

-- what a test of lines finds by the one it finds by the other
pub same-lines : (block : ℕ) (lines : List Line)
    → list_any (names_in_line block) lines ≡ list_any (forks_in_line block) lines
same-lines block lines = λ i. list_any (λ line. same-test block line.call i) lines

and-first : (a b : Bool) → (a && b) ≡ true → a ≡ true
and-first true b h = refl
and-first false b h = absurd (false≢true h)

and-second : (a b : Bool) → (a && b) ≡ true → b ≡ true
and-second true b h = h
and-second false b h = absurd (false≢true h)

none-behind : (lines : List Line) (t : Bool) → t ≡ true → (not t || nat_eq (length lines) 0) ≡ true → lines ≡ []
none-behind lines true e h = empty lines (eqb-true (length lines) 0 h)
  where
    empty : (xs : List Line) → length xs ≡ 0 → xs ≡ []
    empty [] n = refl
    empty (x ∷ xs) n = absurd (omega (arith, n))
none-behind lines false e h = absurd (false≢true e)

-- what a block's lines have, they have up to its exit
kept-with-exit : (test : Line → Bool) (lines : List Line) → ends_rightly lines ≡ true → list_any test lines ≡ true
    → list_any test (with_exit lines) ≡ true
kept-with-exit test [] e h = absurd (false≢true h)
kept-with-exit test (line ∷ lines) e h =
    by (is_exit line.call) refl
    (kept-with-exit test lines (and-second (not (is_exit line.call) || nat_eq (length lines) 0) _ e))
  where
    by : (t : Bool) → is_exit line.call ≡ t → (list_any test lines ≡ true → list_any test (with_exit lines) ≡ true)
        → list_any test (if t then line ∷ [] else line ∷ with_exit lines) ≡ true
    by false is rest =
        elim (or_cases (test line) (list_any test lines) h) [
          | inl first ↦ or_left (test line) (list_any test (with_exit lines)) first
          | inr later ↦ or_right (test line) (list_any test (with_exit lines)) (rest later)
        ]
    by true is rest =
        let none : lines ≡ [] =
        none-behind lines (is_exit line.call) is (and-first _ (ends_rightly lines) e)
        in sym (ap (λ ls. test line || list_any test ls) none) ∙ h

-- a fork among the lines up to the exit is among the block's
before-exit : (block : ℕ) (lines : List Line) → list_any (names_in_line block) (with_exit lines) ≡ true
    → list_any (names_in_line block) lines ≡ true
before-exit block [] h = absurd (false≢true h)
before-exit block (line ∷ lines) h = by (is_exit line.call) (before-exit block lines) h
  where
    test : Line → Bool
    test = names_in_line block

    by : (t : Bool) → (list_any (names_in_line block) (with_exit lines) ≡ true
        → list_any (names_in_line block) lines ≡ true)
        → list_any (names_in_line block) (if t then line ∷ [] else line ∷ with_exit lines) ≡ true
        → list_any (names_in_line block) (line ∷ lines) ≡ true
    by true rest g =
        elim (or_cases (names_in_line block line) false g) [
          | inl first ↦ or_left (names_in_line block line) (list_any (names_in_line block) lines) first
          | inr none ↦ absurd (false≢true none)
        ]
    by false rest g =
        elim (or_cases (names_in_line block line) (list_any (names_in_line block) (with_exit lines)) g) [
          | inl first ↦ or_left (names_in_line block line) (list_any (names_in_line block) lines) first
          | inr later ↦ or_right (names_in_line block line) (list_any (names_in_line block) lines) (rest later)
        ]

-- ---- forks go forward

map-append : (k : ℕ) (xs ys : List ℕ) → map (fork_from k) (xs ++ ys) ≡ map (fork_from k) xs ++ map (fork_from k) ys
map-append k [] ys = refl
map-append k (x ∷ xs) ys = ap (λ zs. fork_from k x ∷ zs) (map-append k xs ys)

line-forward : (g : Fork → Bool) (k block : ℕ) (call : Call) → list_all g (map (fork_from k) (fork_targets call)) ≡ true
    → names_block block call ≡ true → g (fork_from k block) ≡ true
line-forward g k block (calls.Fork to) h n =
    subst (λ b. g (fork_from k b) ≡ true) (eqb-true to block n) (and-first _ _ h)
line-forward g k block call h n = absurd (false≢true n)

abbrev tos_of : List Line → List ℕ
tos_of lines = flat_map (λ line. fork_targets line.call) lines

all-forward : (g : Fork → Bool) (k block : ℕ) (lines : List Line) → list_all g (map (fork_from k) (tos_of lines)) ≡ true
    → list_any (names_in_line block) lines ≡ true → g (fork_from k block) ≡ true
all-forward g k block [] h l = absurd (false≢true l)
all-forward g k block (line ∷ lines) h l =
    let both = sym (list_all-append g (map (fork_from k) (fork_targets line.call)) (map (fork_from k) (tos_of lines)))
    ∙ sym (ap (list_all g) (map-append k (fork_targets line.call) (tos_of lines))) ∙ h
    in elim (or_cases (names_in_line block line) (list_any (names_in_line block) lines) l) [
      | inl first ↦ line-forward g k block line.call (and-first _ _ both) first
      | inr later ↦ all-forward g k block lines (and-second _ _ both) later
    ]

abbrev forks_from : ℕ → List Block → List Fork
forks_from k blocks = flat_map (λ b. map (fork_from b.0) (tos_of b.1.lines)) (enumerate_from k blocks)

block-forward : (g : Fork → Bool) (k : ℕ) (blocks : List Block) → list_all g (forks_from k blocks) ≡ true → (i : ℕ)
    (b : Block)
    → slice_get blocks i ≡ Some b → list_all g (map (fork_from (k + i)) (tos_of b.lines)) ≡ true
block-forward g k [] h i b is = absurd (cc)
block-forward g k (x ∷ blocks) h zero b is =
    let same : x ≡ b = cc
    in let first : k + zero ≡ k = omega arith
    in let both = sym (list_all-append g (map (fork_from k) (tos_of x.lines)) (forks_from (k + 1) blocks)) ∙ h
    in subst (λ n. list_all g (map (fork_from n) (tos_of b.lines)) ≡ true) (sym first)
    (subst (λ (y : Block). list_all g (map (fork_from k) (tos_of y.lines)) ≡ true) same (and-first _ _ both))
block-forward g k (x ∷ blocks) h (suc i) b is =
    let next : k + suc i ≡ k + 1 + i = omega arith
    in let both = sym (list_all-append g (map (fork_from k) (tos_of x.lines)) (forks_from (k + 1) blocks)) ∙ h
    in subst (λ n. list_all g (map (fork_from n) (tos_of b.lines)) ≡ true) (sym next)
    (block-forward g (k + 1) blocks (and-second _ _ both) i b is)

all-get : (test : Block → Bool) (xs : List Block) (i : ℕ) (x : Block) → list_all test xs ≡ true
    → slice_get xs i ≡ Some x → test x ≡ true
all-get test [] i x h is = absurd (cc)
all-get test (y ∷ ys) zero x h is =
    let same : y ≡ x = cc in ap test (sym same) ∙ and-first (test y) (list_all test ys) h
all-get test (y ∷ ys) (suc i) x h is = all-get test ys i x (and-second (test y) (list_all test ys) h) is

-- ---- the one that forks

first-that-is : (test : ℕ → Bool) (first count p : ℕ) → first ≤ p → p < first + count → test p ≡ true
    → ((q : ℕ) → first ≤ q → test q ≡ true → q ≡ p) → first_that test (numbers first count) ≡ p
first-that-is test first zero p low high h only = absurd (omega (arith, low, high))
first-that-is test first (suc count) p low high h only =
    by (test first) refl
    (λ further. first-that-is test (first + 1) count p further (omega (arith, high)) h
    (λ q low_q. only q (omega (arith, low_q))))
  where
    by : (t : Bool) → test first ≡ t → (first + 1 ≤ p → first_that test (numbers (first + 1) count) ≡ p)
        → (if t then first else first_that test (numbers (first + 1) count)) ≡ p
    by true e rest = only first (omega arith) e
    by false e rest =
        elim (cases_eq first p) [
          | inl same ↦ absurd (false≢true (sym e ∙ ap test same ∙ h))
          | inr other ↦ rest (omega (arith, low, other))
        ]

none-dropped : (lines : List Line) → lines ≡ drop 0 lines
none-dropped [] = refl
none-dropped (line ∷ lines) = refl

-- the block with lines that fork another
record Has (script : Script) (p block : ℕ) : Type 0 where
  of : Block
  there : block_at script p ≡ Some of
  names : list_any (names_in_line block) of.lines ≡ true

has-lines : (script : Script) (p block : ℕ) → list_any (names_in_line block) (lines_of script p) ≡ true
    → Has script p block
has-lines script p block h = by (block_at script p) refl h
  where
    by : (o : Option Block) → block_at script p ≡ o → list_any (names_in_line block) (lines_in o) ≡ true
        → Has script p block
    by None e g = absurd (false≢true g)
    by (Some b) e g = record { of = b; there = e; names = before-exit block b.lines g }

has-forks : (script : Script) (p block : ℕ) → is_forked_by script p block ≡ true → Has script p block
has-forks script p block h = by (block_at script p) refl h
  where
    by : (o : Option Block) → block_at script p ≡ o → forks_in block o ≡ true → Has script p block
    by None e g = absurd (false≢true g)
    by (Some b) e g = record { of = b; there = e; names = g }

forks-has : (script : Script) (p block : ℕ) → Has script p block → is_forked_by script p block ≡ true
forks-has script p block h = ap (forks_in block) h.there ∙ h.names

-- then its lines are found from the beginning on
from-beginning : (script : Script) → IsSoundScript script → (p block : ℕ) → Has script p block
    → list_any (forks_in_line block) (caller_place script p (new_caller [])).left ≡ true
from-beginning script sound p block h =
    let of : Block = h.of
    in let ends : ends_rightly of.lines ≡ true =
    all-get (λ b. ends_rightly b.lines) script.blocks (p - 1) of sound.exits h.there
    in sym (ap (λ lines. list_any (forks_in_line block) lines) (none-dropped (lines_of script p)))
    ∙ ap (λ o. list_any (forks_in_line block) (lines_in o)) h.there
    ∙ sym (same-lines block (with_exit of.lines))
    ∙ kept-with-exit (names_in_line block) of.lines ends h.names

-- a node's block forks another: it stands before that one, and no other forks it
pub record IsForkedFrom (script : Script) (p block : ℕ) : Type 0 where
  pub low : 2 ≤ block
  pub high : block ≤ node_count script
  pub before : p < block
  pub forker_is : forker script block ≡ p

from-has : (script : Script) → IsSoundScript script → (p block : ℕ) → 1 ≤ p → Has script p block
    → IsForkedFrom script p block
from-has script sound p block low_p has =
    let of : Block = has.of
    in let numbered : 1 + (p - 1) ≡ p = omega (arith, low_p)
    in let forward : goes_forward script (fork_from p block) ≡ true =
    all-forward (goes_forward script) p block of.lines
    (subst (λ k. list_all (goes_forward script) (map (fork_from k) (tos_of of.lines)) ≡ true) numbered
    (block-forward (goes_forward script) 1 script.blocks sound.forward (p - 1) of has.there)) has.names
    in let before : p < block = ltb-true p block (and-first (nat_lt p block) _ forward)
    in let high : block ≤ node_count script = leb-true block (node_count script) (and-second (nat_lt p block) _ forward)
    in let within : p - 1 < length script.blocks = slice_get_within script.blocks (p - 1) of has.there
    in let low : 2 ≤ block = omega (arith, low_p, before)
    in record {
      low = low;
      high = high;
      before = before;
      forker_is = first-that-is (λ q. is_forked_by script q block) 1 (node_count script) p low_p
          (omega (arith, within)) (forks-has script p block has)
          (λ q low_q is. fork-block-once script block q p (new_caller []) (new_caller []) sound low high low_q low_p
          (from-beginning script sound q block (has-forks script q block is))
          (from-beginning script sound p block has));
    }

-- so it is where a line of it does
pub forked-from : (script : Script) → IsSoundScript script → (p block : ℕ) → 1 ≤ p
    → list_any (names_in_line block) (lines_of script p) ≡ true → IsForkedFrom script p block
forked-from script sound p block low_p h = from-has script sound p block low_p (has-lines script p block h)

first-that-tests : (test : ℕ → Bool) (ns : List ℕ) → first_that test ns ≢ 0 → test (first_that test ns) ≡ true
first-that-tests test [] d = absurd (d refl)
first-that-tests test (n ∷ ns) d = by-test (first-that-tests test ns) (test n) refl d
  where
    by-test : (first_that test ns ≢ 0 → test (first_that test ns) ≡ true) → (t : Bool) → test n ≡ t
        → (if t then n else first_that test ns) ≢ 0 → test (if t then n else first_that test ns) ≡ true
    by-test later true e d = e
    by-test later false e d = later d

-- nobody forks the first block
pub first-not-forked : (script : Script) → IsSoundScript script → (q : ℕ) → 1 ≤ q → forker script 1 ≡ q → ⊥
first-not-forked script sound q low is =
    let some : forker script 1 ≢ 0 = λ none. omega (arith, low, is, none)
    in let forks : is_forked_by script q 1 ≡ true =
    subst (λ r. is_forked_by script r 1 ≡ true) is
    (first-that-tests (λ r. is_forked_by script r 1) (numbers 1 (node_count script)) some)
    in let from : IsForkedFrom script q 1 = from-has script sound q 1 low (has-forks script q 1 forks)
    in let later = from.low
    in omega (arith, later)
