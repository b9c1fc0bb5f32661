-- The node that forks another is one of the script, and in a sound script there is no second one.
use Rattle.std.proofs.Common.{◌≡◌, ℕ, zero, suc, ◌+◌, ◌-◌, ◌<◌, ◌≤◌, Bool, true, false, not, ◌||◌, nat_eq, if◌then◌else◌, List, [], ◌∷◌, length, Option, Some, None, refl, ap, sym, ◌∙◌, inl, inr, arith}
use Rattle.std.specs.List.{list_any}
use Rattle.std.proofs.lemmas.Bool.{and_parts, eqb-true, false≢true, or_cases, or_left, or_right}
use Rattle.pico_base.specs.declared.script.Block.{Block}
use Rattle.pico_base.specs.declared.script.Line.{Line}
use Rattle.pico_base.specs.declared.script.Script.{Script}
use Rattle.kernel_model.specs.Fitting.{block_at}
use Rattle.kernel_model.specs.Script.{IsSoundScript, ends_rightly, is_exit, with_exit}
use Rattle.node_model.specs.Caller.{lines_in}
use Rattle.world_model.specs.Lives.{forks_in, is_forked_by}
use Rattle.world_model.specs.World.{IsNode, node_count, numbers}
use Rattle.world_laws.specs.Names.{first_that}
use Rattle.rule_laws.proofs.makes.Forkers.{IsForkedFrom, forked-from, names_in_line}
use Rattle.bound_laws.proofs.Scripts.{test-at}
use Rattle.turn_laws.specs.Forkers.{ForkersFork, OneForks, forker_of}

-- ---- the first that passes a test

-- it passes, and is one of the numbers
record Passes (test : ℕ → Bool) (first count q : ℕ) : Type 0 where
  passes : test q ≡ true
  low : first ≤ q
  high : q < first + count

first-passes : (test : ℕ → Bool) (first count q : ℕ) → first_that test (numbers first count) ≡ q → 1 ≤ q
    → Passes test first count q
first-passes test first zero q is low = absurd (omega (arith, is, low))
first-passes test first (suc count) q is low =
    by (test first) refl (λ later. first-passes test (first + 1) count q later low) is
  where
    by : (t : Bool) → test first ≡ t
        → (first_that test (numbers (first + 1) count) ≡ q → Passes test (first + 1) count q)
        → (if t then first else first_that test (numbers (first + 1) count)) ≡ q → Passes test first (suc count) q
    by true e later g =
        record { passes = ap test (sym g) ∙ e; low = omega (arith, g); high = omega (arith, g) }
    by false e later g =
        let k : Passes test (first + 1) count q = later g
        in let least = k.low
        in let most = k.high
        in record { passes = k.passes; low = omega (arith, least); high = omega (arith, most) }

-- So where a node has one that forks it, that one is a node and does.
pub forkers_fork_lemma : ForkersFork
forkers_fork_lemma script q p is low =
    let k : Passes (λ x. is_forked_by script x p) 1 (node_count script) q =
    first-passes (λ x. is_forked_by script x p) 1 (node_count script) q is low
    in let most = k.high
    in record { node = record { low = low; high = omega (arith, most) }; forks = k.passes }

-- ---- no second one

-- a line behind an exit there is none
none-behind : (line : Line) (lines : List Line) → is_exit line.call ≡ true → ends_rightly (line ∷ lines) ≡ true
    → lines ≡ []
none-behind line [] e h = refl
none-behind line (next ∷ lines) e h =
    let ends = and_parts (not (is_exit line.call) || nat_eq (length (next ∷ lines)) 0) (ends_rightly (next ∷ lines)) h
    in let none : length (next ∷ lines) ≡ 0 =
    eqb-true (length (next ∷ lines)) 0 (sym (ap (λ t. not t || nat_eq (length (next ∷ lines)) 0) e) ∙ ends.0)
    in absurd (omega (arith, none))

-- what a test finds among a block's lines it finds up to the exit
found-with-exit : (test : Line → Bool) (lines : List Line) → ends_rightly lines ≡ true → list_any test lines ≡ true
    → list_any test (with_exit lines) ≡ true
found-with-exit test [] ends h = absurd (false≢true h)
found-with-exit test (line ∷ lines) ends h =
    let parts = and_parts (not (is_exit line.call) || nat_eq (length lines) 0) (ends_rightly lines) ends
    in by (is_exit line.call) refl (found-with-exit test lines parts.1)
  where
    by : (t : Bool) → is_exit line.call ≡ t → (list_any test lines ≡ true → list_any test (with_exit lines) ≡ true)
        → list_any test (if t then line ∷ [] else line ∷ with_exit lines) ≡ true
    by true e later = sym (ap (λ ls. list_any test (line ∷ ls)) (none-behind line lines e ends)) ∙ h
    by false e later =
        elim (or_cases (test line) (list_any test lines) h) [
          | inl here ↦ or_left (test line) (list_any test (with_exit lines)) here
          | inr behind ↦ or_right (test line) (list_any test (with_exit lines)) (later behind)
        ]

module _ (script : Script) (sound : IsSoundScript script) (q p : ℕ) where
  found-in-lines : (o : Option Block) → block_at script q ≡ o → forks_in p o ≡ true
      → list_any (names_in_line p) (lines_in o) ≡ true
  found-in-lines None is h = absurd (false≢true h)
  found-in-lines (Some b) is h =
      found-with-exit (names_in_line p) b.lines
      (test-at (λ (x : Block). ends_rightly x.lines) script.blocks (q - 1) b sound.exits is) h

  -- A node whose block forks another's is the one.
  pub forks-is-forker : 1 ≤ q → is_forked_by script q p ≡ true → forker_of script p ≡ q
  forks-is-forker low forks =
      let k : IsForkedFrom script q p =
      forked-from script sound q p low (found-in-lines (block_at script q) refl forks)
      in k.forker_is

-- one node forks a block
pub one_forks_lemma : OneForks
one_forks_lemma script q p sound k =
    let node : IsNode script q = k.node
    in forks-is-forker script sound q p node.low k.forks
