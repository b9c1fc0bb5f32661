-- Masks whose bits tell of bytes.
use Rattle.std.proofs.Common.{◌≡◌, ℕ, suc, ◌+◌, ◌-◌, ◌/◌, ◌%◌, ◌^◌, ◌<◌, ◌≤◌, Bool, true, false, cond, not, List, map, length, get_or, take, drop, Fits, w8, w64, refl, sym, ap, ◌∙◌, inl, inr, arith, shr-shr, bit_and, pow_pos, pow_mono, ◌*◌}
use Rattle.std.specs.Int.{bit_at, bit_not}
use Rattle.std.specs.List.{position_or_len}
use Rattle.std.proofs.lemmas.Bool.{agree_below, agree_below_at, cases_eq, cases_lt}
use Rattle.std.proofs.lemmas.Nat.Bits.{bit_at-zero, bit_at_not, bit_at_and, bit_at_ones, bit_at_ones_above, bit_at-lt, bit_at-trailing_zeros}
use Rattle.std.proofs.Math.Nat.{two-pow-succ}
use Rattle.std.proofs.lemmas.Simd.{map-map, mask_l-mod, length-chunk, get_or-chunk, bit_mask_l}
use Rattle.std.proofs.lemmas.List.{length-map, get_or-map, get_or-drop, get_or-take, length-drop, length-take}
use Rattle.std.proofs.lemmas.List.Quantifiers.{position-Some}
use Rattle.std.proofs.lemmas.List.Sums.{prefix_len_is}
use Rattle.std.specs.Prelude.{position, Some}
use Rattle.script_reader.proofs.Cuts.{position_of_first}
use Rattle.script_reader.specs.Words.{is_blank, MarksOf, PartWords}
use lib.Count.{count_trailing_zeros}
use lib.Lanes.{chunk, mask_l, top}

-- a mask whose bit k is that of the lane that was computed from byte k
pub marks_of_lanes : (count : ℕ) (p : ℕ → Bool) (xs : List ℕ) (z : List ℕ) → count ≤ 64 → 0 + count ≤ length xs
    → ((k : ℕ) → Fits w8 (get_or xs k 0)) → (f : ℕ → ℕ) → z ≡ map f (chunk 0 count xs)
    → agree_below (λ x. top 7 (f x)) p 256 ≡ true → MarksOf count p xs (mask_l (map (top 7) z) % 2 ^ 64)
marks_of_lanes count p xs z few room fits f lanes all k inside low =
    let v = chunk 0 count xs in
    let marks : ℕ → Bool = λ x. top 7 (f x) in
    let long : length v ≡ count = length-chunk 0 count xs room in
    let here : 0 + k ≡ k = omega arith in
    let mask : mask_l (map (top 7) z) % 2 ^ 64 ≡ mask_l (map marks v) =
    ap (λ l. mask_l l % 2 ^ 64) (ap (map (top 7)) lanes ∙ map-map (top 7) f v)
    ∙ mask_l-mod (map marks v) 64 (omega (arith, length-map v marks, long, few)) in
    ap (λ m. bit_at m k) mask ∙ bit_mask_l (map marks v) k
    ∙ ap (λ b. cond b 1 0)
    (get_or-map marks v k 0 false (omega (arith, long, low))
    ∙ ap marks (get_or-chunk 0 count xs k 0 low ∙ ap (λ j. get_or xs j 0) here)
    ∙ agree_below_at marks p 256 (get_or xs k 0) all (fits k).fits)

bit_is : (b : Bool) (n : ℕ) → n ≡ cond b 1 0 → n ≡ 0 → b ≡ false
bit_is true n e zero = absurd (omega (arith, e, zero))
bit_is false n e zero = refl

bit_is_set : (b : Bool) (n : ℕ) → n ≡ cond b 1 0 → n ≡ 1 → b ≡ true
bit_is_set true n e one = refl
bit_is_set false n e one = absurd (omega (arith, e, one))

-- the place that a test first passes, from one on, by what stands before it
pub place_from : (p : ℕ → Bool) (line : List ℕ) (start r : ℕ) → start ≤ r → r ≤ length line
    → ((k : ℕ) → start ≤ k → k < r → p (get_or line k 0) ≡ false) → (r < length line → p (get_or line r 0) ≡ true)
    → r ≡ start + position_or_len p (drop start line)
place_from p line start r low high before stops =
    let back : start + (r - start) ≡ r = omega (arith, low) in
    let count : position_or_len p (drop start line) ≡ r - start =
    prefix_len_is (λ x. not (p x)) (drop start line) (r - start) 0 (omega (arith, high, length-drop start line))
    (λ k l. ap (λ x. not (p x)) (get_or-drop start line k 0)
    ∙ ap not (before (start + k) (omega arith) (omega (arith, l, low))))
    (λ l. ap (λ x. not (p x)) (get_or-drop start line (r - start) 0 ∙ ap (λ j. get_or line j 0) back)
    ∙ ap not (stops (omega (arith, l, length-drop start line, low)))) in
    omega (arith, count, low)

-- the next end is the place of the first blank, or the line's end
pub blank_marked : (line : List ℕ) (ends solids start at : ℕ) → PartWords line ends solids → start ≤ length line
    → start ≤ at → ((k : ℕ) → start ≤ k → k < at → bit_at ends k ≡ 0) → (at < 64 → bit_at ends at ≡ 1)
    → (at ≤ length line) × (at ≡ start + position_or_len is_blank (drop start line))
blank_marked line ends solids start at parts inside low clear set =
    let within : at ≤ length line = elim (cases_lt (length line) at) [
      | inl far ↦ absurd (omega (arith, clear (length line) inside far, parts.end))
      | inr near ↦ near
    ] in (
      within,
      place_from is_blank line start at low within
          (λ k a b. bit_is _ _ (parts.blanks k (omega (arith, b, within)) (omega (arith, b, within, parts.short)))
          (clear k a b))
          (λ l. bit_is_set _ _ (parts.blanks at l (omega (arith, l, parts.short)))
          (set (omega (arith, l, parts.short)))),
    )

abbrev is_solid : ℕ → Bool
is_solid b = not (is_blank b)

-- the next solid byte is where the next bit is set
pub solid_marked : (line : List ℕ) (ends solids start at : ℕ) → PartWords line ends solids
    → start ≤ at → ((k : ℕ) → start ≤ k → k < at → bit_at solids k ≡ 0) → at < 64 → bit_at solids at ≡ 1
    → (at < length line) × (at ≡ start + position_or_len is_solid (drop start line))
solid_marked line ends solids start at parts low clear near set =
    let within : at < length line = elim (cases_lt at (length line)) [
      | inl inside ↦ inside
      | inr far ↦ absurd (omega (arith, parts.over at far, set))
    ] in (
      within,
      place_from is_solid line start at low (omega (arith, within))
          (λ k a b. bit_is _ _ (parts.others k (omega (arith, b, within)) (omega (arith, b, near))) (clear k a b))
          (λ l. bit_is_set _ _ (parts.others at l near) set),
    )

-- and where there is none, only blanks are left
pub solid_missed : (line : List ℕ) (ends solids start at : ℕ) → PartWords line ends solids → start ≤ length line
    → ((k : ℕ) → start ≤ k → k < at → bit_at solids k ≡ 0) → 64 ≤ at
    → start + position_or_len is_solid (drop start line) ≡ length line
solid_missed line ends solids start at parts inside clear far =
    sym (place_from is_solid line start (length line) inside (omega arith)
    (λ k a b. bit_is _ _ (parts.others k b (omega (arith, b, parts.short)))
    (clear k a (omega (arith, b, far, parts.short))))
    (λ l. absurd (omega (arith, l))))

unset_not : (b : Bool) → b ≡ false → ¬ (b ≡ true)
unset_not true f t = absurd cc
unset_not false f t = absurd cc

-- the lowest set bit is the place of the first byte that passes
pub position_marked : (count : ℕ) (p : ℕ → Bool) (xs : List ℕ) (mask at : ℕ) → count ≤ length xs → at < count
    → MarksOf count p xs mask → ((k : ℕ) → 0 ≤ k → k < at → bit_at mask k ≡ 0) → bit_at mask at ≡ 1
    → position p xs ≡ Some at
position_marked count p xs mask at long near marks clear set =
    sym (position_of_first p xs (Some at) (
      record {
        low = omega arith;
        high = omega (arith, long, near);
        before = λ k a b. unset_not _ (bit_is _ _ (marks k (omega (arith, b, near, long)) (omega (arith, b, near)))
            (clear k a b));
      },
      bit_is_set _ _ (marks at (omega (arith, long, near)) near) set,
    ))

-- and where none is set, no byte passes
pub none_marked : (count : ℕ) (p : ℕ → Bool) (xs : List ℕ) (mask at : ℕ) → count ≤ length xs → count ≤ at
    → MarksOf count p xs mask → ((k : ℕ) → 0 ≤ k → k < at → bit_at mask k ≡ 0)
    → (k : ℕ) → k < count → p (get_or xs k 0) ≡ false
none_marked count p xs mask at long far marks clear k low =
    bit_is _ _ (marks k (omega (arith, low, long)) low) (clear k (omega arith) (omega (arith, low, far)))

-- the first byte that passes, where none of the first 64 does
pub position_behind : (p : ℕ → Bool) (xs : List ℕ) (at : ℕ) → ((k : ℕ) → k < 64 → p (get_or xs k 0) ≡ false)
    → position p (drop 64 xs) ≡ Some at → position p xs ≡ Some (64 + at)
position_behind p xs at none here =
    let found = position-Some p (drop 64 xs) at 0 here in
    let before : (k : ℕ) → k < 64 + at → p (get_or xs k 0) ≡ false =
    λ k b. elim (cases_lt k 64) [
      | inl near ↦ none k near
      | inr far ↦
          let back : 64 + (k - 64) ≡ k = omega (arith, far) in
          ap p (sym (get_or-drop 64 xs (k - 64) 0 ∙ ap (λ j. get_or xs j 0) back))
          ∙ found.2 (k - 64) (omega (arith, far, b))
    ] in
    sym (position_of_first p xs (Some (64 + at)) (
      record {
        low = omega arith;
        high = omega (arith, found.0, length-drop 64 xs);
        before = λ k a b. unset_not _ (before k b);
      },
      ap p (sym (get_or-drop 64 xs at 0)) ∙ found.1,
    ))

flipped : (b : Bool) (n : ℕ) → n ≡ cond b 1 0 → 1 - n ≡ cond (not b) 1 0
flipped true n e = omega (arith, e)
flipped false n e = omega (arith, e)

-- the masks of a text's first line
pub parts_of_front : (count : ℕ) (xs : List ℕ) (n blanks ends solids : ℕ) → count ≤ 64 → count ≤ length xs
    → n < count → blanks < 2 ^ 64 → MarksOf count is_blank xs blanks → bit_at ends n ≡ 1
    → ((k : ℕ) → k < n → bit_at ends k ≡ bit_at blanks k)
    → ((k : ℕ) → k < n → bit_at solids k ≡ bit_at (bit_not w64 blanks) k) → ((k : ℕ) → n ≤ k → bit_at solids k ≡ 0)
    → PartWords (take n xs) ends solids
parts_of_front count xs n blanks ends solids few room near fits marks end kept flips over =
    let long : length (take n xs) ≡ n = omega (arith, length-take n xs, room, near) in
    record {
      short = omega (arith, long, near, few);
      blanks = λ k inside low. kept k (omega (arith, inside, long)) ∙ front k (omega (arith, inside, long));
      end = ap (bit_at ends) long ∙ end;
      others = λ k inside low. flips k (omega (arith, inside, long)) ∙ bit_at_not w64 blanks k fits low
          ∙ flipped (is_blank (get_or (take n xs) k 0)) (bit_at blanks k) (front k (omega (arith, inside, long)));
      over = λ k above. over k (omega (arith, above, long));
    }
  where
    front : (k : ℕ) → k < n → bit_at blanks k ≡ cond (is_blank (get_or (take n xs) k 0)) 1 0
    front k below =
        marks k (omega (arith, below, near, room)) (omega (arith, below, near))
        ∙ ap (λ b. cond (is_blank b) 1 0) (sym (get_or-take n xs k 0 below))

-- ---- the lowest set bit from a place on

-- a bit from a place on, by the mask shifted there
pub shifted_bit : (mask from k : ℕ) → from ≤ k → bit_at mask k ≡ bit_at (mask / 2 ^ from) (k - from)
shifted_bit mask from k low =
    let back : from + (k - from) ≡ k = omega (arith, low) in
    sym (ap (λ x. x % 2) (shr-shr mask from (k - from)) ∙ ap (bit_at mask) back)

-- no bit is set from a place up to the lowest set one behind it
pub clear_below : (mask from k : ℕ) → mask / 2 ^ from < 2 ^ 64 → from ≤ k
    → k < from + count_trailing_zeros 64 (mask / 2 ^ from) → bit_at mask k ≡ 0
clear_below mask from k fits low high =
    shifted_bit mask from k low
    ∙ elim (cases_eq (mask / 2 ^ from) 0) [
      | inl none ↦ ap (λ m. bit_at m (k - from)) none ∙ bit_at-zero (k - from)
      | inr some ↦ (bit_at-trailing_zeros w64 (mask / 2 ^ from) (omega (arith, some)) fits).2 (k - from)
          (omega (arith, low, high))
    ]

zeros_of_zero : count_trailing_zeros 64 0 ≡ 64
unfolding count_trailing_zeros
zeros_of_zero = refl

-- and that one is set, if there is one
pub set_there : (mask from : ℕ) → mask / 2 ^ from < 2 ^ 64
    → from + count_trailing_zeros 64 (mask / 2 ^ from) < 64
    → bit_at mask (from + count_trailing_zeros 64 (mask / 2 ^ from)) ≡ 1
set_there mask from fits near =
    let n = count_trailing_zeros 64 (mask / 2 ^ from) in
    let same : from + n - from ≡ n = omega arith in
    shifted_bit mask from (from + n) (omega arith)
    ∙ ap (bit_at (mask / 2 ^ from)) same
    ∙ elim (cases_eq (mask / 2 ^ from) 0) [
      | inl none ↦ absurd (omega (arith, near, ap (count_trailing_zeros 64) none, zeros_of_zero))
      | inr some ↦ (bit_at-trailing_zeros w64 (mask / 2 ^ from) (omega (arith, some)) fits).1
    ]

-- ---- masks below a bit, and with it

-- what `1 << n` gives
pub shl_one : (n : ℕ) → n < 64 → 1 * 2 ^ n % 2 ^ 64 ≡ 2 ^ n
shl_one n l =
    let more : 2 ^ suc n ≤ 2 ^ 64 = pow_mono {i = suc n} {j = 64} (omega arith) in
    let small : 2 ^ n < 2 ^ 64 = omega (arith, two-pow-succ n, pow_pos n, more) in
    omega arith

-- of a mask, what stands below a bit
pub low_kept : (m n k : ℕ) → k < n → bit_at (bit_and m (2 ^ n - 1)) k ≡ bit_at m k
low_kept m n k l = omega (arith, bit_at_and m (2 ^ n - 1) k, bit_at_ones n k l, bit_at-lt m k)

-- and nothing else
pub low_only : (m n k : ℕ) → n ≤ k → bit_at (bit_and m (2 ^ n - 1)) k ≡ 0
low_only m n k l = omega (arith, bit_at_and m (2 ^ n - 1) k, bit_at_ones_above n k l)
