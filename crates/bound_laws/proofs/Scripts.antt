-- A sound script can be run by the machine: its forks go forward, to blocks that there are, and no block forks the
-- first.
use Rattle.std.proofs.Common.{◌≡◌, ℕ, zero, suc, ◌+◌, ◌-◌, Bool, true, false, List, [], ◌∷◌, drop, Option, Some, None, refl, ap, sym, subst, ◌∙◌, inl, inr, arith}
use Rattle.std.specs.Prelude.{if◌then◌else◌, slice_get}
use Rattle.std.specs.List.{AllByRecursion, list_all, list_any}
use Rattle.std.proofs.lemmas.Bool.{and_parts, cases_Bool, eqb-true, false≢true, or_cases, or_parts}
use Rattle.pico_base.specs.declared.call.Call.{Call}
use Rattle.pico_base.specs.declared.call.Call.TheVariants as calls
use Rattle.pico_base.specs.declared.script.Block.{Block}
use Rattle.pico_base.specs.declared.script.Line.{Line}
use Rattle.pico_base.specs.declared.script.Script.{Script}
use Rattle.pico_base.specs.declared.signal.Sig.{Sig}
use Rattle.kernel_model.specs.Fitting.{block_at, IsDue}
use Rattle.kernel_model.specs.Script.{IsSoundScript, fork_targets, is_line}
use Rattle.waiting_model.specs.Calls.{is_withdrawal}
use Rattle.entry_laws.proofs.Places.{DueLine, due-line, fork-of}
use Rattle.node_model.specs.Caller.{Caller, caller_place, due_call, lines_in, lines_of}
use Rattle.world_model.specs.Lives.{forks_in, is_forked_by, names_block}
use Rattle.world_model.specs.World.{node_count, numbers}
use Rattle.world_laws.specs.Callers.{HasTries}
use Rattle.world_laws.specs.Names.{first_that, forker}
use Rattle.world_laws.specs.Runnable.{IsRunnable}
use Rattle.bound_laws.proofs.Blocks.{AreTried, tries-with-exit}
use Rattle.bound_laws.proofs.Costs.{IsBehind, TargetsAre, forward-from, targets-are-behind, targets-of-tos}
use Rattle.bound_laws.proofs.Ranges.{some-blocks}
use Rattle.bound_laws.proofs.Calls.{IsRanged, due-is-ranged, is_bad, none-bad, ranged-withdraws-not}

-- one of a list by its place
pub test-at : {X : Type 0} (test : X → Bool) (xs : List X) (i : ℕ) (x : X) → list_all test xs ≡ true
    → slice_get xs i ≡ Some x → test x ≡ true
test-at test [] i x all is = absurd (cc)
test-at test (y ∷ ys) zero x all is =
    let same : y ≡ x = cc in ap test (sym same) ∙ (and_parts (test y) (list_all test ys) all).0
test-at test (y ∷ ys) (suc i) x all is =
    test-at test ys i x (and_parts (test y) (list_all test ys) all).1 is

-- ---- forks

call-names : (P : ℕ → Type 0) (block : ℕ) (call : Call) → AllByRecursion P (fork_targets call)
    → names_block block call ≡ true → P block
call-names P block (calls.Fork to) all h = subst P (eqb-true to block h) all.0
call-names P block call all h = absurd (false≢true h)

-- what lines fork is one of their targets
lines-name : (P : ℕ → Type 0) (block : ℕ) (lines : List Line) → TargetsAre P lines
    → list_any (λ line. names_block block line.call) lines ≡ true → P block
lines-name P block [] all h = absurd (false≢true h)
lines-name P block (line ∷ lines) all h =
    elim (or_cases (names_block block line.call) (list_any (λ l. names_block block l.call) lines) h) [
      | inl here ↦ call-names P block line.call all.0 here
      | inr later ↦ lines-name P block lines all.1 later
    ]

drop-targets : (P : ℕ → Type 0) (i : ℕ) (lines : List Line) (line : Line) (rest : List Line) → TargetsAre P lines
    → drop i lines ≡ line ∷ rest → AllByRecursion P (fork_targets line.call)
drop-targets P zero [] line rest all is = absurd (cc)
drop-targets P (suc i) [] line rest all is = absurd (cc)
drop-targets P zero (l ∷ lines) line rest all is =
    let same : l ≡ line = cc
    in subst (λ (x : Line). AllByRecursion P (fork_targets x.call)) same all.0
drop-targets P (suc i) (l ∷ lines) line rest all is = drop-targets P i lines line rest all.1 is

module _ (script : Script) (sound : IsSoundScript script) where
  tries-in : (block : ℕ) (o : Option Block) → block_at script block ≡ o → AreTried (lines_in o)
  tries-in block None is = tt
  tries-in block (Some b) is =
      tries-with-exit b.lines
      (test-at (λ (x : Block). list_all is_line x.lines) script.blocks (block - 1) b sound.lines is)

  -- Each line is tried once at least.
  pub sound-tries : HasTries script
  sound-tries block = tries-in block (block_at script block) refl

  -- The machine can run it.
  pub sound-is-runnable : IsRunnable script
  sound-is-runnable =
      record {
        some_block = some-blocks script sound;
        tries = sound-tries;
        forks_up = λ p c h.
            let behind =
            lines-name (IsBehind script (1 + (p - 1))) c (lines_of script p) (targets-are-behind script sound p) h
            in let low = behind.0
            in omega (arith, low);
      }

  forks-behind : (p c : ℕ) (o : Option Block) → block_at script p ≡ o → forks_in c o ≡ true
      → IsBehind script (1 + (p - 1)) c
  forks-behind p c None is h = absurd (false≢true h)
  forks-behind p c (Some b) is h =
      lines-name (IsBehind script (1 + (p - 1))) c b.lines
      (targets-of-tos script (IsBehind script (1 + (p - 1))) b.lines
      (forward-from script 1 script.blocks sound.forward (p - 1) b is)) h

  -- A block is forked by one in front of it, and is one of the script.
  pub forked-is-behind : (p c : ℕ) → is_forked_by script p c ≡ true → IsBehind script (1 + (p - 1)) c
  forked-is-behind p c h = forks-behind p c (block_at script p) refl h

  none-forks-first : (p : ℕ) → is_forked_by script p 1 ≡ false
  none-forks-first p =
      elim (cases_Bool (is_forked_by script p 1)) [
        | inr f ↦ f
        | inl t ↦
            let behind = forked-is-behind p 1 t
            in let low = behind.0
            in absurd (omega (arith, low))
      ]

  -- No block forks the first.
  pub first-has-no-forker : forker script 1 ≡ 0
  first-has-no-forker = none-that (numbers 1 (node_count script))
    where
      none-that : (ns : List ℕ) → first_that (λ p. is_forked_by script p 1) ns ≡ 0
      none-that [] = refl
      none-that (n ∷ ns) =
          ap (λ t. if t then n else first_that (λ p. is_forked_by script p 1) ns) (none-forks-first n) ∙ none-that ns

  -- A fork that is due is of a block of the script.
  pub due-fork-is-behind : (p : ℕ) (c : Caller) (doom : Option Sig) (block : ℕ)
      → due_call script p c doom ≡ Some (calls.Fork block) → IsBehind script (1 + (p - 1)) block
  due-fork-is-behind p c (Some sig) block h = absurd (cc)
  due-fork-is-behind p c None block h =
      let d : DueLine (caller_place script p c) (calls.Fork block) =
      due-line (caller_place script p c) (calls.Fork block) h
      in let forks : d.line.call ≡ calls.Fork block =
      fork-of d.line.call (caller_place script p c).vars d.line.from block d.call_is
      in let targets =
      drop-targets (IsBehind script (1 + (p - 1))) c.line (lines_of script p) d.line d.rest
      (targets-are-behind script sound p) d.left
      in (subst (λ (x : Call). AllByRecursion (IsBehind script (1 + (p - 1))) (fork_targets x)) forks targets).0

-- ---- the call that is due

none-dropped : (i : ℕ) (lines : List Line) → list_any is_bad lines ≡ false → list_any is_bad (drop i lines) ≡ false
none-dropped zero lines h = h
none-dropped (suc i) [] h = refl
none-dropped (suc i) (line ∷ lines) h =
    none-dropped i lines (or_parts (is_bad line) (list_any is_bad lines) h).1

module _ (script : Script) (sound : IsSoundScript script) where
  none-bad-in : (p : ℕ) (o : Option Block) → block_at script p ≡ o → list_any is_bad (lines_in o) ≡ false
  none-bad-in p None is = refl
  none-bad-in p (Some b) is =
      none-bad b.lines (test-at (λ (x : Block). list_all is_line x.lines) script.blocks (p - 1) b sound.lines is)

  -- Each call that is due has the ranges of a line,
  pub due-in-script-is-ranged : (p : ℕ) (c : Caller) (call : Call) → IsDue (caller_place script p c) call
      → IsRanged call
  due-in-script-is-ranged p c call is_due =
      due-is-ranged (caller_place script p c) call
      (none-dropped c.line (lines_of script p) (none-bad-in p (block_at script p) refl)) is_due

  -- and is no withdrawal.
  pub never-withdraws : (p : ℕ) (c : Caller) (call : Call) → IsDue (caller_place script p c) call
      → is_withdrawal call ≡ false
  never-withdraws p c call is_due = ranged-withdraws-not call (due-in-script-is-ranged p c call is_due)
