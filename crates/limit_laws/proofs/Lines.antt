-- The lines of a sound script, and the call that is due.
use Rattle.std.proofs.Common.{◌≡◌, Option, Some, None, ℕ, Bool, true, false, refl, ◌<◌, ◌≤◌, List, length, [], ◌∷◌, is_some, zero, suc, ◌-◌, drop, ◌∙◌, arith, sym, ap}
use Rattle.std.proofs.lemmas.Bool.{false≢true, and_parts, leb-true}
use Rattle.std.proofs.lemmas.List.Sums.{sum_by-cons}
use Rattle.std.specs.List.{AllByRecursion, list_all}
use Rattle.std.specs.Prelude.{if◌then◌else◌, sum_by, nat_le, slice_get}
use Rattle.kernel_laws.proofs.Plain.{Of}
use Rattle.kernel_model.specs.Fitting.{is_killed, block_at, call_due}
use Rattle.kernel_model.specs.Numbers.{is_between}
use Rattle.kernel_model.specs.Script.{IsSoundScript, is_in_range, is_exit, calls_in, with_exit, is_variable, max_calls, is_line, is_tried_once, sets_rightly, can_name, is_process_in_range}
use Rattle.limit_laws.proofs.Calls.{IsSpellable, range-is-spellable, line-is-spellable}
use Rattle.kernel_laws.proofs.Lists.{all-dropped}
use Rattle.node_model.specs.Caller.{Caller, lines_of, caller_place, due_call, lines_in}
use Rattle.pico_base.specs.declared.call.Call.{Call}
use Rattle.pico_base.specs.declared.script.Block.{Block}
use Rattle.pico_base.specs.declared.script.Line.{Line}
use Rattle.pico_base.specs.declared.script.Script.{Script}
use Rattle.pico_base.specs.declared.signal.Sig.{Sig}

-- frames have room for a line's call, it is tried once at least, and what it sets is a variable
pub record IsFineLine (line : Line) : Type 0 where
  pub call : IsSpellable line.call
  pub tries : 1 ≤ line.tries
  pub variable : is_variable line.set ≡ true

line-is-fine : (line : Line) → is_line line ≡ true → IsFineLine line
line-is-fine line h =
    let tries = and_parts (is_between 1 max_calls line.tries) _ h
    in let once = and_parts (is_tried_once line) _ tries.1
    in let sets = and_parts (sets_rightly line) _ once.1
    in let ranged = and_parts (is_in_range line.call) _ sets.1
    in let named =
    and_parts (if is_some line.from then can_name line.call else is_process_in_range line.call) _ ranged.1
    in record {
      call = range-is-spellable line.call ranged.0;
      tries = leb-true 1 line.tries (and_parts (nat_le 1 line.tries) _ tries.0).0;
      variable = (and_parts (is_variable line.set) _ named.1).0;
    }

lines-are-fine : (lines : List Line) → list_all is_line lines ≡ true → AllByRecursion IsFineLine (with_exit lines)
lines-are-fine [] h = (record { call = tt; tries = omega arith; variable = refl }, tt)
lines-are-fine (line ∷ lines) h =
    let w = and_parts (is_line line) (list_all is_line lines) h
    in by (is_exit line.call) (line-is-fine line w.0) (lines-are-fine lines w.1)
  where
    by : (b : Bool) → IsFineLine line → AllByRecursion IsFineLine (with_exit lines)
        → AllByRecursion IsFineLine (if b then line ∷ [] else line ∷ with_exit lines)
    by true first rest = (first, tt)
    by false first rest = (first, rest)

test-at : {X : Type 0} (test : X → Bool) (xs : List X) (i : ℕ) (x : X) → list_all test xs ≡ true
    → slice_get xs i ≡ Some x → test x ≡ true
test-at test [] i x all is = absurd (cc)
test-at test (y ∷ ys) zero x all is =
    let same : y ≡ x = cc in ap test (sym same) ∙ (and_parts (test y) (list_all test ys) all).0
test-at test (y ∷ ys) (suc i) x all is =
    test-at test ys i x (and_parts (test y) (list_all test ys) all).1 is

-- ---- how many there are

lines-are-tried : (lines : List Line) → AllByRecursion IsFineLine lines
    → length lines ≤ sum_by (λ (line : Line). line.tries) lines
lines-are-tried [] all = omega arith
lines-are-tried (line ∷ lines) all =
    let first : IsFineLine line = all.0
    in let once = first.tries
    in let rest = lines-are-tried lines all.1
    in let sum = sum_by-cons (λ (x : Line). x.tries) line lines
    in omega (arith, once, rest, sum)

one-of-sum : {X : Type 0} (f : X → ℕ) (xs : List X) (i : ℕ) (x : X) → slice_get xs i ≡ Some x → f x ≤ sum_by f xs
one-of-sum f [] i x is = absurd (cc)
one-of-sum f (y ∷ ys) zero x is =
    let same : f y ≡ f x = let it : y ≡ x = cc in ap f it
    in let sum = sum_by-cons f y ys
    in omega (arith, same, sum)
one-of-sum f (y ∷ ys) (suc i) x is =
    let rest = one-of-sum f ys i x is
    in let sum = sum_by-cons f y ys
    in omega (arith, rest, sum)

dropped-some : (n : ℕ) (xs rest : List Line) (x : Line) → drop n xs ≡ x ∷ rest → n < length xs
dropped-some zero [] rest x is = absurd (cc)
dropped-some zero (y ∷ ys) rest x is = omega arith
dropped-some (suc n) [] rest x is = absurd (cc)
dropped-some (suc n) (y ∷ ys) rest x is = let less = dropped-some n ys rest x is in omega (arith, less)

module _ (script : Script) (sound : IsSoundScript script) where
  -- The lines of a block are fine,
  pub block-is-fine : (block : ℕ) (o : Option Block) → block_at script block ≡ o
      → AllByRecursion IsFineLine (lines_in o)
  block-is-fine block None is = tt
  block-is-fine block (Some b) is =
      lines-are-fine b.lines
      (test-at (λ (x : Block). list_all is_line x.lines) script.blocks (block - 1) b sound.lines is)

  -- so are those of the block with this number,
  pub lines-of-are-fine : (block : ℕ) → AllByRecursion IsFineLine (lines_of script block)
  lines-of-are-fine block = block-is-fine block (block_at script block) refl

  block-is-short : (block : ℕ) (o : Option Block) → block_at script block ≡ o → length (lines_in o) ≤ 20000
  block-is-short block None is = omega arith
  block-is-short block (Some b) is =
      let tried = lines-are-tried (with_exit b.lines) (block-is-fine block (Some b) is)
      in let one = one-of-sum calls_in script.blocks (block - 1) b is
      in let all = leb-true (sum_by calls_in script.blocks) max_calls sound.calls
      in omega (arith, tried, one, all)

  -- and they are no more than 20,000.
  pub lines-of-are-few : (block : ℕ) → length (lines_of script block) ≤ 20000
  lines-of-are-few block = block-is-short block (block_at script block) refl

  -- ---- the call that is due

  -- frames have room for it, and a line of its block is due
  pub record IsDueWithin (p : ℕ) (c : Caller) (call : Call) : Type 0 where
    pub spellable : IsSpellable call
    pub line : is_killed call ≡ false → c.line < length (lines_of script p)

  due-at : (p : ℕ) (c : Caller) (lines : List Line) → drop c.line (lines_of script p) ≡ lines
      → AllByRecursion IsFineLine lines → Of (IsDueWithin p c) (call_due (caller_place script p c) lines)
  due-at p c [] is all = tt
  due-at p c (line ∷ lines) is all =
      let first : IsFineLine line = all.0
      in record {
        spellable = line-is-spellable line.call c.vars line.from first.call;
        line = λ _. dropped-some c.line (lines_of script p) lines line is;
      }

  -- Frames have room for the call that is due, and it is a line's where no signal ends the process.
  pub due-within : (p : ℕ) (c : Caller) (doom : Option Sig) → Of (IsDueWithin p c) (due_call script p c doom)
  due-within p c (Some sig) = record { spellable = tt; line = λ not_killed. absurd (false≢true (sym not_killed)) }
  due-within p c None =
      due-at p c (drop c.line (lines_of script p)) refl
      (all-dropped IsFineLine c.line (lines_of script p) (lines-of-are-fine p))
