-- What the end of a line is, by what was read or printed of it.
use Rattle.std.proofs.Common.{◌≡◌, ◌∙◌, ℕ, ◌≤◌, true, cond, leb, eqb, length, List, [], ◌∷◌, ◌++◌, Some, None, refl, sym, ap, append_assoc, arith}
use Rattle.std.specs.Prelude.{codes, decimal}
use Rattle.std.proofs.lemmas.Bool.{leb-true, eqb-true}
use Rattle.std.proofs.lemmas.List.{append-nil}
use Rattle.std.proofs.lemmas.Option.{same_Some}
use Rattle.pico_base.specs.Options.{◌>>=◌}
use Rattle.pico_base.specs.declared.reply.Outcome.{Outcome}
use Rattle.kernel_model.specs.Numbers.{is_u32}
use Rattle.kernel_model.specs.Trace.{own_text, by_text}
use Rattle.text_fields.specs.Fields.{number_at}
use Rattle.text_fields.proofs.Chains.{bind_some, chosen}
use Rattle.quoted_bytes.proofs.Strips.{strip_takes}
use Rattle.quoted_bytes.specs.Front.{strip}
use Rattle.trace_text.specs.Expected.{EndsWith, numbered}
use Rattle.trace_text.specs.Grammar.{is_outcome}
use Rattle.trace_text.specs.Reading.{by_at, is_line}
use Rattle.trace_text.proofs.Decimals.{number-was}
use Rattle.trace_text.proofs.EntryLaws.{line-tested}

-- what is read of a node
pub record IsBy (bytes : List ℕ) (node : ℕ) (rest : List ℕ) : Type 0 where
  pub text : bytes ≡ codes " by " ++ (decimal node ++ rest)
  pub low : 1 ≤ node
  pub high : node ≤ 32

pub by-takes : (bytes : List ℕ) (node : ℕ) (rest : List ℕ) → by_at bytes ≡ Some (node, rest) → IsBy bytes node rest
unfolding by_at
by-takes bytes node rest e =
    let b = bind_some (strip (codes " by ") bytes)
    (λ front. number_at 32 front >>= λ n. cond (leb 1 n.0) (Some n) None) (node, rest) e in
    let n = bind_some (number_at 32 b.0) (λ n. cond (leb 1 n.0) (Some n) None) (node, rest) b.2 in
    let k = chosen (leb 1 n.0.0) (Some n.0) (node, rest) n.2 in
    let same : n.0 ≡ (node, rest) = same_Some n.0 (node, rest) k.1 in
    let read : number_at 32 b.0 ≡ Some (node, rest) = n.1 ∙ ap (λ (q : ℕ × List ℕ). Some q) same in
    let was = number-was 32 (omega arith) b.0 node rest (omega arith) read in
    record {
      text = strip_takes (codes " by ") bytes b.0 b.1 ∙ ap (λ (xs : List ℕ). codes " by " ++ xs) was.0;
      low = leb-true 1 node (sym (ap (λ (q : ℕ × List ℕ). leb 1 q.0) same) ∙ k.0);
      high = was.1;
    }

-- a list of no length
pub none-left : (bytes : List ℕ) → eqb (length bytes) 0 ≡ true → bytes ≡ []
none-left [] h = refl
none-left (b ∷ bytes) h = absurd (omega (arith, eqb-true (length (b ∷ bytes)) 0 h))

-- a number, and a node behind which nothing is left
pub number-ends : (number found node : ℕ) (bytes behind : List ℕ) → is_u32 number ≡ true → found ≡ number
    → number_at 4294967295 bytes ≡ Some (found, behind) → by_at behind ≡ Some (node, [])
    → EndsWith (numbered number) bytes
number-ends number found node bytes behind small is read by =
    let was = number-was 4294967295 (omega arith) bytes found behind (omega arith) read in
    let b = by-takes behind node [] by in
    record {
      fits = rw small refl;
      node = node;
      low = b.low;
      high = b.high;
      text = rw (was.0, b.text, is, append-nil (decimal node)) (simp append_assoc);
    }

-- an outcome that was printed, and a node
pub printed-ends : (outcome : Outcome) (node : ℕ) (bytes behind own line : List ℕ) → is_outcome outcome ≡ true
    → own ≡ own_text outcome.own → strip own bytes ≡ Some behind → (1 ≤ node) × (node ≤ 32)
    → line ≡ by_text node outcome.woken → is_line line behind ≡ true → EndsWith outcome bytes
printed-ends outcome node bytes behind own line fits o s n l h =
    let text : by_text node outcome.woken ≡ behind ++ 10 ∷ [] = sym l ∙ line-tested line behind h in
    record {
      fits = fits;
      node = node;
      low = n.0;
      high = n.1;
      text = rw (text, strip_takes own bytes behind s, o) (simp append_assoc);
    }

-- what is pushed behind nothing
pub cleared : {out before more : List ℕ} → before ≡ [] → out ≡ before ++ more → out ≡ more
cleared none is = is ∙ rw none refl
