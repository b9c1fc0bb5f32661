-- Tests and lengths, as frames need them.
use Rattle.std.proofs.Common.{◌≡◌, ℕ, suc, ◌+◌, ◌*◌, ◌≤◌, true, nat_lt, List, [], ◌∷◌, length, ap, ◌∙◌, arith}
use Rattle.std.proofs.lemmas.Bool.{and_from, le-leb, lt-ltb, ltb-true}
use Rattle.std.proofs.lemmas.List.{length-append}
use Rattle.std.specs.List.{flat_map}
use Rattle.frame_bytes.specs.Frames.{frame_body, max_frame}
use Rattle.frame_bytes.specs.Limits.{has_fields, is_frame}
use Rattle.rpc_frame.specs.declared.frame.Frame.{Frame}

-- A frame whose fields are within the limits, and whose bytes are few, is within the limits.
pub fields-are-frame : (f : Frame) → has_fields f ≡ true → length (frame_body f) ≤ max_frame → is_frame f ≡ true
fields-are-frame f fields short =
    and_from (has_fields f) _ fields (le-leb (length (frame_body f)) max_frame short)

-- a number that is at least 1
pub some-nonzero : (n : ℕ) → 1 ≤ n → nat_lt 0 n ≡ true
some-nonzero n low = lt-ltb 0 n (omega (arith, low))

-- and the other way round
pub nonzero-some : (n : ℕ) → nat_lt 0 n ≡ true → 1 ≤ n
nonzero-some n h = let less = ltb-true 0 n h in omega (arith, less)

-- Fields of one length each have so many times that length.
pub fields-length : {A : Type 0} (field : A → List ℕ) (size : ℕ) (xs : List A) → ((x : A) → length (field x) ≡ size)
    → length (flat_map field xs) ≡ size * length xs
fields-length field size [] each = omega arith
fields-length field size (x ∷ xs) each =
    let whole = length-append (field x) (flat_map field xs)
    in let first = each x
    in let rest = fields-length field size xs each
    in whole ∙ ap (λ n. n + length (flat_map field xs)) first ∙ ap (λ n. size + n) rest ∙ times-more size (length xs)
  where
    times-more : (k n : ℕ) → k + k * n ≡ k * suc n
    times-more k n = omega arith
