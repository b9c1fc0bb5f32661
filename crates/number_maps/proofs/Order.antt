-- How two numbers compare, as the orders of std's maps see it.
use Rattle.std.proofs.Common.{◌≡◌, ◌≢◌, ℕ, ◌<◌, true, false, nat_cmp, nat_eq, refl, ap, sym, inl, inr, arith}
use Rattle.std.specs.declared.cmp.Ordering.TheVariants.{Less, Equal, Greater}
use Rattle.std.specs.Ordering.{is_eq}
use Rattle.std.specs.BTreeMap.{is_at}
use Rattle.std.specs.Cmp.{nat_cmp_is}
use Rattle.std.proofs.lemmas.Bool.{cases_order, eq-eqb, ne_eqb}

-- the order of equal numbers
pub cmp-equal : (n m : ℕ) → n ≡ m → nat_cmp n m ≡ Equal
cmp-equal n m h = sym (nat_cmp_is n m Equal h)

-- the order of a lower number to a higher
pub cmp-less : (n m : ℕ) → n < m → nat_cmp n m ≡ Less
cmp-less n m h = sym (nat_cmp_is n m Less h)

-- and back
pub less-below : (n m : ℕ) → nat_cmp n m ≡ Less → n < m
less-below n m h = grind arith

-- the order of a higher number to a lower
pub cmp-greater : (n m : ℕ) → m < n → nat_cmp n m ≡ Greater
cmp-greater n m h = sym (nat_cmp_is n m Greater h)

-- a number is equal to itself
pub cmp-same : (a : ℕ) → nat_cmp a a ≡ Equal
cmp-same a = cmp-equal a a refl

-- what compares as equal is one number
pub equal-same : (a b : ℕ) → nat_cmp a b ≡ Equal → a ≡ b
equal-same a b h = grind arith

-- the test for a key, by the same number or another
pub at-same : (q n : ℕ) → q ≡ n → is_at (nat_cmp q) n ≡ true
at-same q n h = ap is_eq (cmp-equal q n h)

-- the test for a key refuses another number
pub at-other : (q n : ℕ) → q ≢ n → is_at (nat_cmp q) n ≡ false
at-other q n h =
    elim (cases_order q n) [
      | inl e ↦ absurd (h e)
      | inr (inl l) ↦ ap is_eq (cmp-less q n l)
      | inr (inr g) ↦ ap is_eq (cmp-greater q n g)
    ]

-- the test for a key is the test for equal numbers
pub is_at-nat_eq : (a b : ℕ) → is_at (nat_cmp a) b ≡ nat_eq a b
is_at-nat_eq a b = grind arith

-- equality of numbers, as a test
pub eq-same : (n : ℕ) → nat_eq n n ≡ true
eq-same n = eq-eqb n n refl

-- different numbers fail the test
pub eq-other : (n m : ℕ) → n ≢ m → nat_eq n m ≡ false
eq-other n m h = ne_eqb n m h

-- numbers that pass the test are one
pub same-from-nat_eq : (a b : ℕ) → nat_eq a b ≡ true → a ≡ b
same-from-nat_eq a b h = grind arith

-- a lower number fails the test
pub less-apart : (a b : ℕ) → nat_cmp a b ≡ Less → nat_eq a b ≡ false
less-apart a b h = grind arith

-- a higher number fails the test
pub greater-apart : (a b : ℕ) → nat_cmp a b ≡ Greater → nat_eq a b ≡ false
greater-apart a b h = grind arith

-- a higher number isn't the same
pub greater-differs : (a b : ℕ) → nat_cmp a b ≡ Greater → b ≡ a → ⊥
greater-differs a b h same = grind arith
