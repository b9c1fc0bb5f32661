-- Bytes that are looked at together.
use Rattle.std.proofs.Common.{◌≡◌, ℕ, ◌+◌, ◌-◌, ◌%◌, ◌^◌, ◌<◌, ◌≤◌, Bool, true, ◌||◌, List, map, length, get_or, Fits, w8, sym, ap, ◌∙◌, inl, inr, arith}
use Rattle.std.proofs.lemmas.Bool.{agree_below, agree_below_at, cases_lt}
use Rattle.std.proofs.lemmas.Simd.{map-map, mask_l-mod, length-chunk, zip2_of_maps, none_from_empty_mask}
use Rattle.std.proofs.lemmas.List.{length-map}
use Rattle.std.proofs.lemmas.List.Sums.{list_all-from_AllPass}
use Rattle.std.proofs.lemmas.List.Elements.{All-from_get_or}
use Rattle.std.specs.List.{list_all}
use lib.Lanes.{chunk, zip2, mask_l, top}

-- from one place up to another
abbrev pub AllPass : (ℕ → Bool) → List ℕ → ℕ → ℕ → Type 0
AllPass q xs from to = (k : ℕ) → from ≤ k → k < to → q (get_or xs k 0) ≡ true

-- an operation on two vectors that were computed lane by lane from v
pub joined : (h : ℕ → ℕ → ℕ) (f g : ℕ → ℕ) (v : List ℕ) {a b : List ℕ} → a ≡ map f v → b ≡ map g v
    → zip2 h a b ≡ map (λ x. h (f x) (g x)) v
joined h f g v p q = zip2_of_maps h f g v p q

-- no lane is marked, and each byte at which none would be passes q
pub unmarked_pass : (q : ℕ → Bool) (xs : List ℕ) (i : ℕ) (z : List ℕ) → i + 16 ≤ length xs
    → ((k : ℕ) → Fits w8 (get_or xs k 0)) → mask_l (map (top 7) z) % 2 ^ 64 ≡ 0
    → (f : ℕ → ℕ) → z ≡ map f (chunk i 16 xs)
    → agree_below (λ x. top 7 (f x) || q x) (λ _. true) 256 ≡ true → AllPass q xs i (i + 16)
unmarked_pass q xs i z room fits none f lanes all k from to =
    let v = chunk i 16 xs in
    let marks : ℕ → Bool = λ x. top 7 (f x) in
    let long : length v ≡ 16 = length-chunk i 16 xs room in
    let mask : mask_l (map (top 7) z) % 2 ^ 64 ≡ mask_l (map marks v) =
    ap (λ l. mask_l l % 2 ^ 64) (ap (map (top 7)) lanes ∙ map-map (top 7) f v)
    ∙ mask_l-mod (map marks v) 64 (omega (arith, length-map v marks, long)) in
    let unmarked = none_from_empty_mask marks xs i 16 0 room (sym mask ∙ none) k from to in
    sym (ap (λ b. b || q (get_or xs k 0)) unmarked)
    ∙ agree_below_at (λ x. marks x || q x) (λ _. true) 256 (get_or xs k 0) all (fits k).fits

-- all pass, where those in front do and the last 16, which may overlap them
pub covered : (q : ℕ → Bool) (xs : List ℕ) (seen : ℕ) → 16 ≤ length xs → length xs - 16 ≤ seen → AllPass q xs 0 seen
    → AllPass q xs (length xs - 16) (length xs - 16 + 16) → list_all q xs ≡ true
covered q xs seen room overlaps front back =
    list_all-from_AllPass q xs
    (All-from_get_or (λ x. q x ≡ true) xs 0
    (λ k inside. elim (cases_lt k seen) [
      | inl early ↦ front k (omega arith) early
      | inr late ↦ back k (omega arith) (omega arith)
    ]))
