-- Numbers in a row: which are there, and what is left when the first is taken.
use Rattle.std.proofs.Common.{◌≡◌, ℕ, ◌+◌, ◌-◌, ◌<◌, ◌≤◌, suc, [], ◌∷◌, refl, ◌∙◌, arith, Contains}
use Rattle.std.proofs.lemmas.List.FromFn.{length-range_with_len, get_or-range_with_len}
use Rattle.std.specs.List.{range_with_len}
use Rattle.std.specs.List.Sorted.{IsStrictlyIncreasing}

-- the first number and the others
pub range-first : (a b : ℕ) → a < b → range_with_len a (b - a) ≡ a ∷ range_with_len (a + 1) (b - (a + 1))
range-first a b below =
    let e : b - a ≡ suc (b - (a + 1)) = omega arith in
    rw e refl

-- none are there where the ends meet
pub range-none : (a b : ℕ) → a ≡ b → range_with_len a (b - a) ≡ []
range-none a b same =
    let e : b - a ≡ 0 = omega arith in
    rw e refl

-- each is below the next
pub range-rising : (a n : ℕ) → IsStrictlyIncreasing (range_with_len a n)
range-rising a n k within =
    let here : k < n = omega (arith, length-range_with_len a n) in
    let next : k + 1 < n = omega (arith, length-range_with_len a n) in
    omega (arith, get_or-range_with_len a n k 0 here, get_or-range_with_len a n (k + 1) 0 next)

-- a number between the ends is there
pub range-contains : (a b x : ℕ) → a ≤ x → x < b → Contains (range_with_len a (b - a)) x
range-contains a b x above below =
    let place : x - a < b - a = omega arith in
    let found : a + (x - a) ≡ x = omega arith in
    (x - a, omega (arith, length-range_with_len a (b - a)), get_or-range_with_len a (b - a) (x - a) x place ∙ found)

-- one that is there is between the ends
pub range-contained : (a b x : ℕ) → Contains (range_with_len a (b - a)) x → (a ≤ x) × (x < b)
range-contained a b x there =
    let place : there.0 < b - a = omega (arith, there.1, length-range_with_len a (b - a)) in
    let found : a + there.0 ≡ x = omega (arith, there.2, get_or-range_with_len a (b - a) there.0 x place) in
    (omega arith, omega arith)
