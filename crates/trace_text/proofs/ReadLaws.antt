-- The loop over the lines of a trace, step by step.
use Rattle.std.proofs.Common.{◌≡◌, ℕ, zero, suc, ◌+◌, ◌-◌, ◌<◌, Bool, true, false, leb, ltb, eqb, List, [], ◌∷◌, ◌++◌, length, Some, None, refl, arith}
use Rattle.std.specs.Prelude.{Ok, Err}
use Rattle.std.proofs.lemmas.Bool.{and_parts, ltb-true}
use Rattle.pico_base.specs.declared.reply.Entry.{Entry}
use Rattle.pico_base.specs.declared.script.Script.{Script}
use Rattle.kernel_model.specs.Trace.{totals_line, entries_total}
use Rattle.trace_text.specs.Reading.{has_ended, is_line, entry_in}
use Rattle.trace_text.specs.Read.{next_line, fits, begins_like_totals, read_from}
use Rattle.trace_text.proofs.EntryLaws.{line-tested}

module _ (script : Script) (line left : ℕ) (done : List Entry) (bytes : List ℕ) where
  pub read-full : (n : ℕ) → n ≡ 0 → read_from script n line left done bytes ≡ Err line
  unfolding read_from
  read-full zero e = refl
  read-full (suc n) e = absurd (omega (arith, e))

  pub read-end : (n : ℕ) → None ≡ next_line bytes → read_from script n line left done bytes ≡ Err line
  unfolding read_from
  read-end zero e = refl
  read-end (suc n) e = rw (← e) refl

  module _ (text after : List ℕ) (there : Some (text, after) ≡ next_line bytes) where
    pub read-unfit : (n : ℕ) → fits left text ≡ false → read_from script n line left done bytes ≡ Err line
    unfolding read_from
    read-unfit zero f = refl
    read-unfit (suc n) f = rw (← there, f) refl

    pub read-whole : (n : ℕ) → 0 < n → fits left text ≡ true → is_line (totals_line done) text ≡ true
        → has_ended after ≡ true → read_from script n line left done bytes ≡ Ok done
    unfolding read_from
    read-whole zero some f t e = absurd (omega (arith, some))
    read-whole (suc n) some f t e = rw (← there, f, t, e) refl

    pub read-more : (n : ℕ) → 0 < n → fits left text ≡ true → is_line (totals_line done) text ≡ true
        → has_ended after ≡ false → read_from script n line left done bytes ≡ Err (line + 1)
    unfolding read_from
    read-more zero some f t e = absurd (omega (arith, some))
    read-more (suc n) some f t e = rw (← there, f, t, e) refl

    pub read-none : (n : ℕ) → fits left text ≡ true → is_line (totals_line done) text ≡ false
        → entry_in script text ≡ None → read_from script n line left done bytes ≡ Err line
    unfolding read_from
    read-none zero f t e = refl
    read-none (suc n) f t e = rw (← there, f, t, e) refl

    pub read-goes : (n : ℕ) (entry : Entry) → 0 < n → fits left text ≡ true → is_line (totals_line done) text ≡ false
        → entry_in script text ≡ Some entry
        → read_from script n line left done bytes
        ≡ read_from script (n - 1) (line + 1) (left - (length text + 1)) (done ++ entry ∷ []) after
    unfolding read_from
    read-goes zero entry some f t e = absurd (omega (arith, some))
    read-goes (suc n) entry some f t e =
        let same : suc n - 1 ≡ n = omega arith in
        rw (← there, f, t, e, same) refl

-- the totals begin with a `t`
pub no-totals : (done : List Entry) (line : List ℕ) → begins_like_totals line ≡ false
    → is_line (totals_line done) line ≡ false
unfolding entries_total
no-totals done [] h = of (is_line (totals_line done) []) refl
  where
    of : (c : Bool) → is_line (totals_line done) [] ≡ c → is_line (totals_line done) [] ≡ false
    of true e = let text = line-tested (totals_line done) [] e in absurd (cc)
    of false e = e
no-totals done (b ∷ line) h = of (is_line (totals_line done) (b ∷ line)) refl
  where
    of : (c : Bool) → is_line (totals_line done) (b ∷ line) ≡ c → is_line (totals_line done) (b ∷ line) ≡ false
    of true e =
        let text = line-tested (totals_line done) (b ∷ line) e in
        let first : 116 ≡ b = cc in
        let test : eqb b 116 ≡ true = rw (← first) refl in
        absurd (cc)
    of false e = e

-- a text has ended where no byte is left
pub ended-is : (bytes : List ℕ) → has_ended bytes ≡ eqb (length bytes) 0
ended-is [] = refl
ended-is (b ∷ bytes) = grind arith

-- a line that fits is shorter than what is left
pub fits-room : (left : ℕ) (line : List ℕ) → fits left line ≡ true → length line < left
fits-room left line h = ltb-true (length line) left (and_parts (leb (length line) 1048576) (ltb (length line) left) h).1
