-- What is kept beside the counts of the nodes, as a count changes.
use Rattle.std.proofs.Common.{◌≡◌, ◌≢◌, ℕ, ◌+◌, ◌-◌, ◌*◌, ◌/◌, ◌%◌, ◌^◌, ◌<◌, ◌≤◌, zero, suc, Bool, true, false, List, [], ◌∷◌, ◌++◌, length, map, set, get_or, cond, Some, None, refl, sym, ap, ◌∙◌, ⊎_elim, arith, get_or-set_same, get_or-set_other, length-set, length-append, w32}
use Rattle.std.specs.Prelude.{bit_and, bit_or}
use Rattle.std.specs.Int.{bit_at, bit_not, trailing_zeros}
use Rattle.std.specs.List.{sum}
use Rattle.std.specs.Simd.Lanes.{mask_l}
use Rattle.std.proofs.Math.ListN.{get_or-map}
use Rattle.std.proofs.lemmas.Bool.{cases_eq}
use Rattle.std.proofs.lemmas.List.{length-map, map-set}
use Rattle.std.proofs.lemmas.List.Sums.{sum_by-cons, sum_by-append, sum_by-set}
use Rattle.std.proofs.lemmas.Nat.{shr-shr, shr_le}
use Rattle.std.proofs.lemmas.Nat.Bits.{bit_at-trailing_zeros, bit_at-zero}
use Rattle.std.proofs.lemmas.Simd.{bit_mask_l}
use Rattle.world_core.specs.Counts.{is_busy, busy_mask, AreSummed, IsNext}
use Rattle.world_core.proofs.Masks.{mask_l-on, mask_l-off, mask_l-below}

-- ---- of no node, and of one more without an event

pub summed-none : AreSummed 0 0 []
summed-none = record { few = omega arith; each = λ i. omega arith; summed = refl; marked = refl }

idle-behind : (bs : List Bool) → mask_l (bs ++ false ∷ []) ≡ mask_l bs
idle-behind [] = refl
idle-behind (b ∷ bs) = let e = idle-behind bs in omega arith

map-behind : (xs : List ℕ) → map is_busy (xs ++ 0 ∷ []) ≡ map is_busy xs ++ false ∷ []
map-behind [] = refl
map-behind (x ∷ xs) = ap (λ (l : List Bool). is_busy x ∷ l) (map-behind xs)

each-behind : (xs : List ℕ) → ((i : ℕ) → get_or xs i 0 ≤ 33) → (i : ℕ) → get_or (xs ++ 0 ∷ []) i 0 ≤ 33
each-behind [] each zero = omega arith
each-behind [] each (suc i) = omega arith
each-behind (x ∷ xs) each zero = each 0
each-behind (x ∷ xs) each (suc i) = each-behind xs (λ k. each (suc k)) i

-- one node more that has no event
pub summed-idle : (all busy : ℕ) (xs : List ℕ) → AreSummed all busy xs → length xs < 32
    → AreSummed all busy (xs ++ 0 ∷ [])
summed-idle all busy xs was lt = record {
  few = (let same = length-append xs (0 ∷ []) in omega arith);
  each = each-behind xs was.each;
  summed = (let same = sum_by-append (λ (x : ℕ). x) xs (0 ∷ []) in omega (arith, was.summed));
  marked = was.marked ∙ sym (ap mask_l (map-behind xs) ∙ idle-behind (map is_busy xs));
}

-- ---- a count changes

pub one-of-sum : (xs : List ℕ) (k : ℕ) → get_or xs k 0 ≤ sum xs
one-of-sum [] k = omega arith
one-of-sum (x ∷ xs) zero = let e = sum_by-cons (λ (x : ℕ). x) x xs in omega arith
one-of-sum (x ∷ xs) (suc k) = let e = sum_by-cons (λ (x : ℕ). x) x xs in let le = one-of-sum xs k in omega arith

pub few-in-all : (xs : List ℕ) → ((i : ℕ) → get_or xs i 0 ≤ 33) → sum xs ≤ 33 * length xs
few-in-all [] each = omega arith
few-in-all (x ∷ xs) each =
    let e = sum_by-cons (λ (x : ℕ). x) x xs in let le = few-in-all xs (λ i. each (suc i)) in let here = each 0 in
    omega arith

each-set : (xs : List ℕ) (k x : ℕ) → ((i : ℕ) → get_or xs i 0 ≤ 33) → k < length xs → x ≤ 33 → (i : ℕ)
    → get_or (set xs k x) i 0 ≤ 33
each-set xs k x each lt le i =
    ⊎_elim (λ (same : i ≡ k). let e = ap (λ (j : ℕ). get_or (set xs k x) j 0) same in
    let there = get_or-set_same xs k x 0 lt in omega arith)
    (λ (other : i ≢ k). let there = get_or-set_other xs k i x 0 other in let was = each i in omega arith)
    (cases_eq i k)

-- the sum after a change, with no step below zero
pub sum-changed : (all busy : ℕ) (xs : List ℕ) (k x old : ℕ) → AreSummed all busy xs → k < length xs
    → old ≡ get_or xs k 0 → all - old + x ≡ sum (set xs k x)
sum-changed all busy xs k x old was lt is_old =
    let le = one-of-sum xs k in let same = sum_by-set (λ (x : ℕ). x) xs k x 0 lt in omega (arith, was.summed)

-- a node has an event now
pub summed-busy : (all busy : ℕ) (xs : List ℕ) (k x old : ℕ) → AreSummed all busy xs → k < length xs → x ≤ 33
    → old ≡ get_or xs k 0 → 0 < x
    → AreSummed (all - old + x) (bit_or busy (1 * 2 ^ k % 2 ^ 32)) (set xs k x)
summed-busy all busy xs k x old was lt le is_old some = record {
  few = (let same = length-set xs k x in omega (arith, was.few));
  each = each-set xs k x was.each lt le;
  summed = sum-changed all busy xs k x old was lt is_old;
  marked =
      (let busy_now : is_busy x ≡ true = grind arith in
      ap (λ (n : ℕ). bit_or n (1 * 2 ^ k % 2 ^ 32)) was.marked
      ∙ mask_l-on (map is_busy xs) k (omega (arith, length-map xs is_busy)) (omega (arith, was.few))
      ∙ sym (ap mask_l (map-set is_busy xs k x ∙ ap (set (map is_busy xs) k) busy_now)));
}

-- a node has no event now
pub summed-free : (all busy : ℕ) (xs : List ℕ) (k x old : ℕ) → AreSummed all busy xs → k < length xs
    → old ≡ get_or xs k 0 → x ≤ 0
    → AreSummed (all - old + x) (bit_and busy (bit_not w32 (1 * 2 ^ k % 2 ^ 32))) (set xs k x)
summed-free all busy xs k x old was lt is_old none = record {
  few = (let same = length-set xs k x in omega (arith, was.few));
  each = each-set xs k x was.each lt (omega arith);
  summed = sum-changed all busy xs k x old was lt is_old;
  marked =
      (let free_now : is_busy x ≡ false = grind arith in
      ap (λ (n : ℕ). bit_and n (bit_not w32 (1 * 2 ^ k % 2 ^ 32))) was.marked
      ∙ mask_l-off (map is_busy xs) k (omega (arith, length-map xs is_busy))
      (omega (arith, length-map xs is_busy, was.few))
      ∙ sym (ap mask_l (map-set is_busy xs k x ∙ ap (set (map is_busy xs) k) free_now)));
}

-- so many events fit a number of 32 bits
pub sum-fits : (all busy : ℕ) (xs : List ℕ) (k x old : ℕ) → AreSummed all busy xs → x ≤ 33 → all - old + x < 2 ^ 32
sum-fits all busy xs k x old was le = let few = few-in-all xs was.each in omega (arith, was.summed, was.few)

-- one more node, and then its count
pub set-behind : (xs : List ℕ) (x : ℕ) → set (xs ++ 0 ∷ []) (length xs) x ≡ xs ++ x ∷ []
set-behind [] x = refl
set-behind (y ∷ xs) x = ap (λ (l : List ℕ). y ∷ l) (set-behind xs x)

-- ---- the next node with an event

-- the bit of a node
bit-of : (busy : ℕ) (xs : List ℕ) (i : ℕ) → busy ≡ busy_mask xs → bit_at busy i ≡ cond (is_busy (get_or xs i 0)) 1 0
bit-of busy xs i marked =
    ap (λ (n : ℕ). bit_at n i) marked ∙ bit_mask_l (map is_busy xs) i
    ∙ ap (λ (b : Bool). cond b 1 0) (get_or-map is_busy xs i 0)

-- the bits from one on
bit-from : (busy from i : ℕ) → from ≤ i → bit_at busy i ≡ bit_at (busy / 2 ^ from) (i - from)
bit-from busy from i le =
    let e : from + (i - from) ≡ i = omega arith in
    ap (bit_at busy) (sym e) ∙ ap (λ (n : ℕ). n % 2) (sym (shr-shr busy from (i - from)))

none-there : (x : ℕ) → ◌≡◌ {A = ℕ} (cond (is_busy x) 1 0) 0 → x ≡ 0
none-there zero e = refl
none-there (suc x) e =
    let busy : is_busy (suc x) ≡ true = grind arith in
    let one = ap (λ (b : Bool). cond {A = ℕ} b 1 0) busy in absurd (omega arith)

one-there : (x : ℕ) → ◌≡◌ {A = ℕ} (cond (is_busy x) 1 0) 1 → 0 < x
one-there zero e =
    let free : is_busy 0 ≡ false = grind arith in
    let none = ap (λ (b : Bool). cond {A = ℕ} b 1 0) free in absurd (omega arith)
one-there (suc x) e = omega arith

within : (xs : List ℕ) (k : ℕ) → 0 < get_or xs k 0 → k < length xs
within [] k some = absurd (omega arith)
within (x ∷ xs) zero some = omega arith
within (x ∷ xs) (suc k) some = let lt = within xs k some in omega arith

-- with no bit from one on, no node from there on has an event
pub next-none : (all busy : ℕ) (xs : List ℕ) (from : ℕ) → AreSummed all busy xs → busy / 2 ^ from ≡ 0
    → IsNext xs from None
next-none all busy xs from was none i le =
    none-there (get_or xs i 0)
    (sym (bit-of busy xs i was.marked) ∙ bit-from busy from i le
    ∙ ap (λ (n : ℕ). bit_at n (i - from)) none ∙ bit_at-zero (i - from))

-- past all nodes no node has an event
pub next-past : (all busy : ℕ) (xs : List ℕ) (from : ℕ) → AreSummed all busy xs → 32 ≤ from → IsNext xs from None
next-past all busy xs from was past i le =
    ⊎_elim (λ (e : get_or xs i 0 ≡ 0). e)
    (λ (other : get_or xs i 0 ≢ 0). let lt = within xs i (omega arith) in absurd (omega (arith, was.few)))
    (cases_eq (get_or xs i 0) 0)

-- the lowest bit from one on is the next node's
pub next-some : (all busy : ℕ) (xs : List ℕ) (from : ℕ) → AreSummed all busy xs → busy / 2 ^ from ≢ 0
    → IsNext xs from (Some (from + trailing_zeros w32 (busy / 2 ^ from)))
next-some all busy xs from was some =
    let n = busy / 2 ^ from in
    let t = trailing_zeros w32 n in
    let small : busy < 2 ^ 32 =
    (let below = mask_l-below (map is_busy xs) (omega (arith, length-map xs is_busy, was.few)) in
    omega (arith, was.marked)) in
    let lowest = bit_at-trailing_zeros w32 n (omega arith) (let le = shr_le busy from in omega arith) in
    let e : from + t - from ≡ t = omega arith in
    let here : 0 < get_or xs (from + t) 0 =
    one-there (get_or xs (from + t) 0)
    (sym (bit-of busy xs (from + t) was.marked) ∙ bit-from busy from (from + t) (omega arith)
    ∙ ap (bit_at n) e ∙ lowest.1) in (
      omega arith,
      within xs (from + t) here,
      here,
      λ i le lt. none-there (get_or xs i 0)
          (sym (bit-of busy xs i was.marked) ∙ bit-from busy from i le ∙ lowest.2 (i - from) (omega arith)),
    )
