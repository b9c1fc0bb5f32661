-- Bytes that stand for themselves, taken together, and what the loop over a text keeps.
use Rattle.std.proofs.Common.{◌≡◌, inl, inr, ℕ, zero, suc, ◌+◌, ◌-◌, ◌*◌, ◌<◌, ◌≤◌, Bool, true, cond, eqb, List, [], ◌∷◌, ◌++◌, length, take, drop, Some, None, refl, sym, ap, ◌∙◌, append_assoc, arith}
use Rattle.std.specs.List.{list_all}
use Rattle.std.proofs.lemmas.Bool.{and_parts, and_from}
use Rattle.std.proofs.lemmas.List.{append-nil, length-drop, take_rest}
use Rattle.std.proofs.lemmas.Option.{none-some, some_pair_parts}
use Rattle.pico_base.specs.Options.{◌>>=◌}
use Rattle.kernel_model.specs.Texts.{is_plain}
use Rattle.quoted_bytes.specs.Bytes.{hex_at, escape_at, text_byte_at}
use Rattle.quoted_bytes.proofs.Bytes.{plain_again}
use Rattle.text_fields.specs.Fields.{all_at, many}
use Rattle.text_fields.proofs.Chains.{bind_some, chosen, parted}
use Rattle.text_fields.proofs.Many.{onto, many-goes}

-- where all in front pass, and all of the next ones, all of both pass
pub all-further : (p : ℕ → Bool) (n m : ℕ) (xs : List ℕ) → list_all p (take n xs) ≡ true
    → list_all p (take m (drop n xs)) ≡ true → list_all p (take (n + m) xs) ≡ true
all-further p zero m xs front next = let same : 0 + m ≡ m = omega arith in rw same next
all-further p (suc n) m [] front next = let both : suc n + m ≡ suc (n + m) = omega arith in rw both refl
all-further p (suc n) m (x ∷ xs) front next =
    let parts = and_parts (p x) (list_all p (take n xs)) front in
    let both : suc n + m ≡ suc (n + m) = omega arith in
    rw both (and_from (p x) (list_all p (take (n + m) xs)) parts.0 (all-further p n m xs parts.1 next))

-- ---- a byte leaves less

escape_shrinks : (bytes : List ℕ) (b : ℕ) (after : List ℕ) → escape_at bytes ≡ Some (b, after)
    → length after ≤ length bytes
unfolding escape_at
escape_shrinks [] b after e = absurd (none-some (b, after) e)
escape_shrinks (x ∷ []) b after e = absurd (none-some (b, after) e)
escape_shrinks (x ∷ h ∷ []) b after e = absurd (none-some (b, after) e)
escape_shrinks (x ∷ h ∷ l ∷ rest) b after e =
    let high = bind_some (hex_at h)
    (λ high. hex_at l >>= λ low. cond (eqb x 120) (Some (16 * high + low, rest)) None) (b, after) e in
    let low = bind_some (hex_at l) (λ low. cond (eqb x 120) (Some (16 * high.0 + low, rest)) None) (b, after) high.2 in
    let is = chosen (eqb x 120) (Some (16 * high.0 + low.0, rest)) (b, after) low.2 in
    omega (arith, ap length (some_pair_parts (16 * high.0 + low.0) b rest after is.1).1)

-- a byte of a text takes at least one of the bytes that spell it
pub text_byte_shrinks : (bytes : List ℕ) (b : ℕ) (after : List ℕ) → Some (b, after) ≡ text_byte_at bytes
    → length after < length bytes
unfolding text_byte_at
text_byte_shrinks [] b after e = absurd (none-some (b, after) (sym e))
text_byte_shrinks (c ∷ rest) b after e =
    elim (parted (eqb c 92) (escape_at rest) (cond (is_plain c) (Some (c, rest)) None) (Some (b, after)) (sym e)) [
      | inl p ↦ omega (arith, escape_shrinks rest b after p.1)
      | inr p ↦
          let t = chosen (is_plain c) (Some (c, rest)) (b, after) p.1 in
          omega (arith, ap length (some_pair_parts c b rest after t.1).1)
    ]

-- ---- a run

-- bytes that stand for themselves come next in the text
pub plain-run : (n k : ℕ) (bytes so_far : List ℕ) → k ≤ length bytes → length bytes ≤ n
    → list_all is_plain (take k bytes) ≡ true
    → onto so_far (many text_byte_at n bytes) ≡ onto (so_far ++ take k bytes) (many text_byte_at (n - k) (drop k bytes))
plain-run n zero bytes so_far within room plain =
    let same : n - 0 ≡ n = omega arith in rw (same, append-nil so_far) refl
plain-run n (suc k) [] so_far within room plain = absurd (omega (arith, within))
plain-run zero (suc k) (b ∷ bs) so_far within room plain = absurd (omega (arith, room))
plain-run (suc n) (suc k) (b ∷ bs) so_far within room plain =
    let parts = and_parts (is_plain b) (list_all is_plain (take k bs)) plain in
    let one : suc n - 1 ≡ n = omega arith in
    let left : suc n - suc k ≡ n - k = omega arith in
    let first = many-goes text_byte_at so_far (b ∷ bs) bs b (suc n) (omega arith) (sym (plain_again b bs parts.0)) in
    let next = plain-run n k bs (so_far ++ b ∷ []) (omega (arith, within)) (omega (arith, room)) parts.1 in
    let grouped = append_assoc so_far (b ∷ []) (take k bs) in
    rw (left, ← grouped) (first ∙ rw one next)

-- ---- the loop over a text

-- what is read so far, in front of what is left, is the whole text
pub record Reads (bytes text rest : List ℕ) : Type 0 where
  pub most : ℕ
  pub room : length rest ≤ most
  pub whole : onto text (many text_byte_at most rest) ≡ all_at text_byte_at bytes

-- behind a run
pub reads-run : (bytes text rest : List ℕ) (k : ℕ) → Reads bytes text rest → k ≤ length rest
    → list_all is_plain (take k rest) ≡ true → Reads bytes (text ++ take k rest) (drop k rest)
reads-run bytes text rest k r within plain = record {
  most = r.most - k;
  room = omega (arith, r.room, length-drop k rest);
  whole = sym (plain-run r.most k rest text within r.room plain) ∙ r.whole;
}

-- behind a byte
pub reads-byte : (bytes text rest after : List ℕ) (b : ℕ) → Reads bytes text rest → Some (b, after) ≡ text_byte_at rest
    → Reads bytes (text ++ b ∷ []) after
reads-byte bytes text rest after b r e =
    let less = text_byte_shrinks rest b after e in record {
      most = r.most - 1;
      room = omega (arith, r.room, less);
      whole = sym (many-goes text_byte_at text rest after b r.most (omega (arith, r.room, less)) e) ∙ r.whole;
    }

-- behind the run that the text begins with
pub reads-first : (bytes : List ℕ) (k : ℕ) → k ≤ length bytes → list_all is_plain (take k bytes) ≡ true
    → Reads bytes (take k bytes) (drop k bytes)
reads-first bytes k within plain =
    reads-run bytes [] bytes k (record { most = length bytes; room = omega arith; whole = refl }) within plain

-- a byte and a run leave less
pub rest-shorter : (rest after : List ℕ) (k : ℕ) → length after < length rest
    → length (take (length after - k) (drop k after)) < length rest
rest-shorter rest after k less = rw (take_rest after k) (omega (arith, less, length-drop k after))
