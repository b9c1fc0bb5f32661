-- Masks of the edges of words.
use Rattle.std.proofs.Common.{◌≡◌, ℕ, zero, suc, ◌+◌, ◌-◌, ◌*◌, ◌/◌, ◌%◌, ◌^◌, ◌<◌, ◌≤◌, ◌≢◌, Bool, true, false, cond, not, List, length, get_or, drop, refl, sym, ap, ◌∙◌, inl, inr, arith, bit_xor, pow_pos}
use Rattle.std.specs.Int.{bit_at}
use Rattle.std.specs.List.{position_or_len}
use Rattle.std.proofs.lemmas.Bool.{cases_eq, cases_lt}
use Rattle.std.proofs.lemmas.Nat.Bits.{bit_at-zero, bit_at-lt, bit_at_xor, bit_at_cat_low, bit_at_cat_high}
use Rattle.script_reader.specs.Words.{is_blank, PartWords, EdgesFrom, EdgesBehind}
use Rattle.script_reader.proofs.Marked.{shifted_bit, place_from}

-- ---- shifted masks

-- the bits that a mask of 64 keeps
kept_bit : (n k : ℕ) → k < 64 → bit_at (n % 2 ^ 64) k ≡ bit_at n k
kept_bit n k low =
    let whole : n / 2 ^ 64 * 2 ^ 64 + n % 2 ^ 64 ≡ n = omega arith in
    sym (bit_at_cat_low (n / 2 ^ 64) 64 (n % 2 ^ 64) k low) ∙ ap (λ x. bit_at x k) whole

shifted_low : (a s k : ℕ) → s < 64 → k < s → bit_at (a * 2 ^ s % 2 ^ 64) k ≡ 0
shifted_low a s k short low =
    let plus : a * 2 ^ s ≡ a * 2 ^ s + 0 = omega arith in
    kept_bit (a * 2 ^ s) k (omega (arith, short, low)) ∙ ap (λ x. bit_at x k) plus ∙ bit_at_cat_low a s 0 k low
    ∙ bit_at-zero k

shifted_high : (a s k : ℕ) → s ≤ k → k < 64 → bit_at (a * 2 ^ s % 2 ^ 64) k ≡ bit_at a (k - s)
shifted_high a s k high low =
    let plus : a * 2 ^ s ≡ a * 2 ^ s + 0 = omega arith in
    kept_bit (a * 2 ^ s) k low ∙ ap (λ x. bit_at x k) plus ∙ bit_at_cat_high a s 0 k (pow_pos s) high

-- shifted there and back, a mask has no bits below that place
pub back_under : (mask s k : ℕ) → s < 64 → k < s → bit_at (mask / 2 ^ s * 2 ^ s % 2 ^ 64) k ≡ 0
back_under mask s k short low = shifted_low (mask / 2 ^ s) s k short low

-- and all others
pub back_kept : (mask s k : ℕ) → s ≤ k → k < 64 → bit_at (mask / 2 ^ s * 2 ^ s % 2 ^ 64) k ≡ bit_at mask k
back_kept mask s k high low = shifted_high (mask / 2 ^ s) s k high low ∙ sym (shifted_bit mask s k high)

-- the lowest bit has none below it that it may differ from
pub change_first : (mask : ℕ) → bit_at (bit_xor mask (mask * 2 ^ 1 % 2 ^ 64)) 0 ≡ bit_at mask 0
change_first mask =
    omega (
      arith,
      bit_at_xor mask (mask * 2 ^ 1 % 2 ^ 64) 0,
      shifted_low mask 1 0 (omega arith) (omega arith),
      bit_at-lt mask 0,
    )

-- each other one is set where a bit differs from the one below it
pub change_at : (mask k : ℕ) → 0 < k → k < 64
    → bit_at (bit_xor mask (mask * 2 ^ 1 % 2 ^ 64)) k ≡ (bit_at mask k + bit_at mask (k - 1)) % 2
change_at mask k some low =
    bit_at_xor mask (mask * 2 ^ 1 % 2 ^ 64) k
    ∙ ap (λ b. (bit_at mask k + b) % 2) (shifted_high mask 1 k (omega (arith, some)) low)

-- the changes among the bits from a place on are the edges from there
pub edges_made : (solids rest edges start : ℕ) → start < 64 → ((k : ℕ) → k < start → bit_at rest k ≡ 0)
    → ((k : ℕ) → start ≤ k → k < 64 → bit_at rest k ≡ bit_at solids k) → bit_at edges 0 ≡ bit_at rest 0
    → ((k : ℕ) → 0 < k → k < 64 → bit_at edges k ≡ (bit_at rest k + bit_at rest (k - 1)) % 2)
    → EdgesFrom solids edges start
edges_made solids rest edges start short under kept first others =
    record {
      under = λ k low. elim (cases_eq k 0) [
        | inl none ↦ ap (bit_at edges) none ∙ first ∙ ap (bit_at rest) (sym none) ∙ under k low
        | inr some ↦ omega (
          arith,
          others k (omega (arith, some)) (omega (arith, low, short)),
          under k low,
          under (k - 1) (omega (arith, low)),
        )
      ];
      here = elim (cases_eq start 0) [
        | inl none ↦ ap (bit_at edges) none ∙ first ∙ ap (bit_at rest) (sym none) ∙ kept start (omega arith) short
        | inr some ↦ omega (
          arith,
          others start (omega (arith, some)) short,
          kept start (omega arith) short,
          under (start - 1) (omega (arith, some)),
          bit_at-lt solids start,
        )
      ];
      behind = λ k after low.
          omega (
            arith,
            others k (omega (arith, after)) low,
            kept k (omega (arith, after)) low,
            kept (k - 1) (omega (arith, after)) (omega (arith, low)),
          );
    }

-- ---- where a word begins

clear_at : (solids edges start r : ℕ) → EdgesFrom solids edges start
    → ((k : ℕ) → 0 ≤ k → k < r → bit_at edges k ≡ 0)
    → (n k : ℕ) → k ≡ start + n → k < r → k < 64 → bit_at solids k ≡ 0
clear_at solids edges start r from clear zero k e before low =
    let same : k ≡ start = omega (arith, e) in
    ap (bit_at solids) same ∙ sym from.here ∙ clear start (omega arith) (omega (arith, same, before))
clear_at solids edges start r from clear (suc n) k e before low =
    let last = clear_at solids edges start r from clear n (k - 1) (omega (arith, e)) (omega (arith, before))
    (omega (arith, low)) in
    omega (arith, last, from.behind k (omega (arith, e)) low, clear k (omega arith) before, bit_at-lt solids k)

-- up to the next edge there are only blanks
pub clear_to_edge : (solids edges start r : ℕ) → EdgesFrom solids edges start
    → ((k : ℕ) → 0 ≤ k → k < r → bit_at edges k ≡ 0) → (k : ℕ) → start ≤ k → k < r → k < 64 → bit_at solids k ≡ 0
clear_to_edge solids edges start r from clear k low before few =
    clear_at solids edges start r from clear (k - start) k (omega (arith, low)) before few

-- an edge is no lower than where the edges begin
pub edge_low : (solids edges start r : ℕ) → EdgesFrom solids edges start → bit_at edges r ≡ 1 → start ≤ r
edge_low solids edges start r from set = elim (cases_lt r start) [
  | inl below ↦ absurd (omega (arith, from.under r below, set))
  | inr from_there ↦ from_there
]

-- at the next edge a word begins
pub solid_at_edge : (solids edges start r : ℕ) → EdgesFrom solids edges start
    → ((k : ℕ) → 0 ≤ k → k < r → bit_at edges k ≡ 0) → r < 64 → bit_at edges r ≡ 1 → bit_at solids r ≡ 1
solid_at_edge solids edges start r from clear near set =
    let low : start ≤ r = edge_low solids edges start r from set in
    elim (cases_eq r start) [
      | inl same ↦ ap (bit_at solids) same ∙ sym from.here ∙ ap (bit_at edges) (sym same) ∙ set
      | inr other ↦
          let after : start < r = omega (arith, low, other) in
          let last = clear_to_edge solids edges start r from clear (r - 1) (omega (arith, after))
          (omega (arith, after)) (omega (arith, near, after)) in
          omega (arith, last, from.behind r after near, set, bit_at-lt solids r)
    ]

-- without it, the edges are those behind the word's first byte
pub edges_behind : (solids edges less start r : ℕ) → EdgesFrom solids edges start
    → ((k : ℕ) → 0 ≤ k → k < r → bit_at edges k ≡ 0) → r < 64 → bit_at edges r ≡ 1 → bit_at less r ≡ 0
    → ((k : ℕ) → k < 64 → k ≢ r → bit_at less k ≡ bit_at edges k) → EdgesBehind solids less r
edges_behind solids edges less start r from clear near set gone kept =
    let low : start ≤ r = edge_low solids edges start r from set in
    record {
      upto = λ k within. elim (cases_eq k r) [
        | inl same ↦ ap (bit_at less) same ∙ gone
        | inr other ↦ kept k (omega (arith, within, near)) other ∙ clear k (omega arith) (omega (arith, other, within))
      ];
      behind = λ k after few. kept k few (λ e. omega (arith, e, after)) ∙ from.behind k (omega (arith, low, after)) few;
    }

-- ---- where a word without a quote ends

solid_at : (solids edges start r : ℕ) → EdgesBehind solids edges start → bit_at solids start ≡ 1
    → ((k : ℕ) → 0 ≤ k → k < r → bit_at edges k ≡ 0)
    → (n k : ℕ) → k ≡ start + n → k < r → k < 64 → bit_at solids k ≡ 1
solid_at solids edges start r from set clear zero k e before low =
    let same : k ≡ start = omega (arith, e) in
    ap (bit_at solids) same ∙ set
solid_at solids edges start r from set clear (suc n) k e before low =
    let last = solid_at solids edges start r from set clear n (k - 1) (omega (arith, e)) (omega (arith, before))
    (omega (arith, low)) in
    omega (arith, last, from.behind k (omega (arith, e)) low, clear k (omega arith) before, bit_at-lt solids k)

-- up to the next edge there are no blanks
solid_to_edge : (solids edges start r : ℕ) → EdgesBehind solids edges start → bit_at solids start ≡ 1
    → ((k : ℕ) → 0 ≤ k → k < r → bit_at edges k ≡ 0) → (k : ℕ) → start ≤ k → k < r → k < 64 → bit_at solids k ≡ 1
solid_to_edge solids edges start r from set clear k low before few =
    solid_at solids edges start r from set clear (k - start) k (omega (arith, low)) before few

not_blank : (b : Bool) (n : ℕ) → n ≡ cond (not b) 1 0 → n ≡ 1 → b ≡ false
not_blank true n e one = absurd (omega (arith, e, one))
not_blank false n e one = refl

blank : (b : Bool) (n : ℕ) → n ≡ cond (not b) 1 0 → n ≡ 0 → b ≡ true
blank true n e none = refl
blank false n e none = absurd (omega (arith, e, none))

-- the next edge stands in the line, or at its end
pub end_within : (line : List ℕ) (ends solids edges start r : ℕ) → PartWords line ends solids → start < length line
    → EdgesBehind solids edges start → bit_at solids start ≡ 1 → ((k : ℕ) → 0 ≤ k → k < r → bit_at edges k ≡ 0)
    → r ≤ length line
end_within line ends solids edges start r parts inside from set clear = elim (cases_lt (length line) r) [
  | inl far ↦ absurd (omega (
    arith,
    parts.over (length line) (omega arith),
    solid_to_edge solids edges start r from set clear (length line) (omega (arith, inside)) far parts.short,
  ))
  | inr near ↦ near
]

-- an edge stands behind the first byte
end_after : (solids edges start r : ℕ) → EdgesBehind solids edges start → bit_at edges r ≡ 1 → start < r
end_after solids edges start r from edge = elim (cases_lt start r) [
  | inl after ↦ after
  | inr upto ↦ absurd (omega (arith, from.upto r upto, edge))
]

-- and no byte of a word is there
end_clear : (solids edges start r : ℕ) → EdgesBehind solids edges start → bit_at solids start ≡ 1
    → ((k : ℕ) → 0 ≤ k → k < r → bit_at edges k ≡ 0) → r < 64 → bit_at edges r ≡ 1 → bit_at solids r ≡ 0
end_clear solids edges start r from set clear near edge =
    let after : start < r = end_after solids edges start r from edge in
    let last = solid_to_edge solids edges start r from set clear (r - 1) (omega (arith, after)) (omega (arith, after))
    (omega (arith, near, after)) in
    omega (arith, last, from.behind r after near, edge, bit_at-lt solids r)

-- so it is the place of the first blank, or the line's end
pub end_place : (line : List ℕ) (ends solids edges start r : ℕ) → PartWords line ends solids → start < length line
    → EdgesBehind solids edges start → bit_at solids start ≡ 1 → ((k : ℕ) → 0 ≤ k → k < r → bit_at edges k ≡ 0)
    → (r < 64 → bit_at edges r ≡ 1) → r ≡ start + 1 + position_or_len is_blank (drop (start + 1) line)
end_place line ends solids edges start r parts inside from set clear edge =
    let within : r ≤ length line = end_within line ends solids edges start r parts inside from set clear in
    let near : r < 64 = omega (arith, within, parts.short) in
    let after : start < r = end_after solids edges start r from (edge near) in
    place_from is_blank line (start + 1) r (omega (arith, after)) within
    (λ k low before. not_blank _ _ (parts.others k (omega (arith, before, within)) (omega (arith, before, near)))
    (solid_to_edge solids edges start r from set clear k (omega (arith, low)) before (omega (arith, before, near))))
    (λ inside. blank _ _ (parts.others r inside near) (end_clear solids edges start r from set clear near (edge near)))

-- and without it, the edges are those from there on
pub edges_after : (solids edges less start r : ℕ) → EdgesBehind solids edges start → bit_at solids start ≡ 1
    → ((k : ℕ) → 0 ≤ k → k < r → bit_at edges k ≡ 0) → r < 64 → bit_at edges r ≡ 1 → bit_at less r ≡ 0
    → ((k : ℕ) → k < 64 → k ≢ r → bit_at less k ≡ bit_at edges k) → EdgesFrom solids less r
edges_after solids edges less start r from set clear near edge gone kept =
    let after : start < r = end_after solids edges start r from edge in
    record {
      under = λ k low. kept k (omega (arith, low, near)) (λ e. omega (arith, e, low)) ∙ clear k (omega arith) low;
      here = gone ∙ sym (end_clear solids edges start r from set clear near edge);
      behind = λ k later few. kept k few (λ e. omega (arith, e, later))
          ∙ from.behind k (omega (arith, after, later)) few;
    }
