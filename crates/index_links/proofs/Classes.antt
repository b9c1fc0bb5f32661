-- Classes as numbers without a sign, and the lowest of them.
use Rattle.std.proofs.Common.{◌≡◌, ◌≢◌, ◌⊎◌, ℕ, suc, ◌+◌, ◌-◌, ◌<◌, ◌≤◌, ◌^◌, ℤ, pos, negsuc, ◌≤ℤ◌, Bool, true, false, cond, List, [], ◌∷◌, Option, Some, None, SFits, w32, refl, sym, ap, ◌∙◌, inl, inr, arith}
use Rattle.std.proofs.lemmas.Bool.{cases_eq, cases_order, eq-eqb, ne_eqb, cases_Bool}
use Rattle.std.proofs.lemmas.Bool.Decides.{Decides-int_eq, nat_tests}
use Rattle.std.proofs.lemmas.Int.{ints, to_z-of_z}
use Rattle.std.specs.Int.{cast_signed, cast_unsigned}
use Rattle.std.specs.List.{AllByRecursion}
use Rattle.std.specs.Ordering.{int_eq}
use Rattle.std.specs.Prelude.{IfSome, int_le, int_lt, nat_lt}
use Rattle.index_links.specs.Chains.{of_key}
use Rattle.index_links.specs.Keys.{half, key_of, class_of}
use Rattle.index_links.specs.Nodes.{Node, first_slot, first_slot_of, least_upto, lower_of}

lt_true : (a b : ℕ) → a < b → nat_lt a b ≡ true
lt_true a b h = grind (arith, nat_tests)

lt_false : (a b : ℕ) → b ≤ a → nat_lt a b ≡ false
lt_false a b h = grind (arith, nat_tests)

-- the class of a number in either half
pub class_low : (k : ℕ) → k < half → class_of k ≡ negsuc (half - suc k)
unfolding class_of
class_low k h = rw (lt_true k half h) refl

pub class_high : (k : ℕ) → half ≤ k → class_of k ≡ pos (k - half)
unfolding class_of
class_high k h = rw (lt_false k half h) refl

-- a class that fits comes back
pub class_of-key_of : (z : ℤ) → SFits w32 z → class_of (key_of z) ≡ z
unfolding key_of
class_of-key_of (pos n) fits =
    let same : (half + n) - half ≡ n = omega arith in class_high (half + n) (omega arith) ∙ ap pos same
class_of-key_of (negsuc n) fits =
    let below : n < half = omega arith in
    let low : half - suc n < half = omega arith in
    let same : half - suc (half - suc n) ≡ n = omega arith in
    class_low (half - suc n) low ∙ ap negsuc same

-- the number of a class whose bits are these
pub key_low : (z : ℤ) (bits : ℕ) → SFits w32 z → bits ≡ cast_unsigned w32 z → bits < half → bits + half ≡ key_of z
unfolding key_of
key_low (pos n) bits fits is h = omega arith
key_low (negsuc n) bits fits is h = let below : n < half = omega arith in absurd (omega arith)

-- and that of one whose bits are in the other half
pub key_high : (z : ℤ) (bits : ℕ) → SFits w32 z → bits ≡ cast_unsigned w32 z → half ≤ bits → bits - half ≡ key_of z
unfolding key_of
key_high (pos n) bits fits is h = let below : n < half = omega arith in absurd (omega arith)
key_high (negsuc n) bits fits is h = omega arith

-- the bits of a number's class
pub bits_low : (k : ℕ) → k < half → cast_signed w32 (k + half) ≡ class_of k
bits_low k h =
    let low : half - suc k < half = omega arith in
    let fits : SFits w32 (negsuc (half - suc k)) = record { sfits = low } in
    let bits : k + half ≡ cast_unsigned w32 (negsuc (half - suc k)) = omega arith in
    ap (cast_signed w32) bits ∙ (to_z-of_z w32 (negsuc (half - suc k)) fits ∙ sym (class_low k h))

-- and those in the other half
pub bits_high : (k : ℕ) → half ≤ k → k < 2 ^ 32 → cast_signed w32 (k - half) ≡ class_of k
bits_high k h below =
    let is : cast_signed w32 (k - half) ≡ pos (k - half) = omega (arith, ints) in is ∙ sym (class_high k h)

negative_rises : (a b : ℕ) → b ≤ a → negsuc a ≤ℤ negsuc b
negative_rises a b h = omega (arith, ints)

negative_below : (a b : ℕ) → negsuc a ≤ℤ pos b
negative_below a b = omega (arith, ints)

positive_rises : (a b : ℕ) → a ≤ b → pos a ≤ℤ pos b
positive_rises a b h = omega (arith, ints)

-- a class rises with its number
pub class_rises : (a b : ℕ) → a ≤ b → class_of a ≤ℤ class_of b
class_rises a b le =
    elim (cases_lt a half) [
      | inl la ↦
          elim (cases_lt b half) [
            | inl lb ↦
                rw (class_low a la, class_low b lb)
                (negative_rises (half - suc a) (half - suc b) (omega arith))
            | inr hb ↦ rw (class_low a la, class_high b hb) (negative_below (half - suc a) (b - half))
          ]
      | inr ha ↦
          let hb : half ≤ b = omega arith in
          rw (class_high a ha, class_high b hb) (positive_rises (a - half) (b - half) (omega arith))
    ]
  where
    cases_lt : (x y : ℕ) → (x < y) ⊎ (y ≤ x)
    cases_lt x y =
        elim (cases_order x y) [
          | inl same ↦ inr (omega arith)
          | inr c ↦ elim c [ inl less ↦ inl less | inr more ↦ inr (omega arith) ]
        ]

pub int_eq_same : (a b : ℤ) → a ≡ b → int_eq a b ≡ true
int_eq_same a b same = (Decides-int_eq a b).1 same

pub int_eq_other : (a b : ℤ) → a ≢ b → int_eq a b ≡ false
int_eq_other a b ne =
    elim (cases_Bool (int_eq a b)) [
      | inl is_true ↦ absurd (ne ((Decides-int_eq a b).0 is_true))
      | inr is_false ↦ is_false
    ]

-- ---- the lowest class

-- what is at most a class isn't above a bound that the class isn't above
le_lower : (a b bound : ℤ) → a ≤ℤ b → int_le a bound ≡ false → int_le b bound ≡ false
le_lower a b bound le h = grind (arith, ints)

not_lower : (a b : ℤ) → a ≤ℤ b → int_lt b a ≡ false
not_lower a b le = grind (arith, ints)

no_higher : (a b : ℤ) → b ≤ℤ a → int_lt b a ≡ false → a ≡ b
no_higher a b le h = grind (arith, ints)

lower_same : (a b : ℤ) → b ≤ℤ a → lower_of a (Some b) ≡ b
lower_same a b le =
    elim (cases_Bool (int_lt b a)) [
      | inl is_true ↦ rw is_true refl
      | inr is_false ↦ rw is_false (no_higher a b le is_false)
    ]

-- nothing is lower where each is at least this one
lower_keeps : (least : ℤ) (o : Option ℤ) → IfSome o (λ d. least ≤ℤ d) → lower_of least o ≡ least
lower_keeps least None h = refl
lower_keeps least (Some d) h = rw (not_lower least d h) refl

lower_either : (least c d : ℤ) (b : Bool) → least ≤ℤ c → least ≤ℤ d → least ≤ℤ cond b d c
lower_either least c d true lc ld = ld
lower_either least c d false lc ld = lc

lower_bound : (least c : ℤ) (o : Option ℤ) → least ≤ℤ c → IfSome o (λ d. least ≤ℤ d) → least ≤ℤ lower_of c o
lower_bound least c None le h = le
lower_bound least c (Some d) le h = lower_either least c d (int_lt d c) le h

lower_step : (least c : ℤ) (o : Option ℤ) (b : Bool) → least ≤ℤ c → IfSome o (λ d. least ≤ℤ d)
    → IfSome (cond b (Some (lower_of c o)) o) (λ d. least ≤ℤ d)
lower_step least c o true le h = lower_bound least c o le h
lower_step least c o false le h = h

module _ {V : Type 0} where
  -- no class is at or below a bound that is below all
  pub none_upto : (bound least : ℤ) (ns : List (Node V)) → AllByRecursion (λ (n : Node V). least ≤ℤ n.class) ns
      → int_le least bound ≡ false → least_upto bound ns ≡ None
  none_upto bound least [] all above = refl
  none_upto bound least (n ∷ ns) all above =
      rw (le_lower least n.class bound all.0 above) (none_upto bound least ns all.1 above)

  -- what is found is at least the lowest
  upto_bound : (bound least : ℤ) (ns : List (Node V)) → AllByRecursion (λ (n : Node V). least ≤ℤ n.class) ns
      → IfSome (least_upto bound ns) (λ d. least ≤ℤ d)
  upto_bound bound least [] all = tt
  upto_bound bound least (n ∷ ns) all =
      lower_step least n.class (least_upto bound ns) (int_le n.class bound) all.0 (upto_bound bound least ns all.1)

  -- the lowest class of all is found, where it isn't above the bound
  pub least_found : (bound least : ℤ) (key : ℕ) (ns : List (Node V))
      → AllByRecursion (λ (n : Node V). least ≤ℤ n.class) ns
      → AllByRecursion (λ (n : Node V). key_of n.class ≡ key → n.class ≡ least) ns → of_key key ns ≢ []
      → int_le least bound ≡ true → least_upto bound ns ≡ Some least
  least_found bound least key [] all keys some below = absurd (some refl)
  least_found bound least key (n ∷ ns) all keys some below =
      elim (cases_eq (key_of n.class) key) [
        | inl same ↦
            let is : n.class ≡ least = keys.0 same in
            let test : int_le n.class bound ≡ true = ap (λ (c : ℤ). int_le c bound) is ∙ below in
            rw test
            (ap (λ (c : ℤ). Some (lower_of c (least_upto bound ns))) is
            ∙ ap Some (lower_keeps least (least_upto bound ns) (upto_bound bound least ns all.1)))
        | inr ne ↦
            let rest : of_key key ns ≢ [] = rw (ne_eqb (key_of n.class) key ne) at some in
            let found : least_upto bound ns ≡ Some least = least_found bound least key ns all.1 keys.1 rest below in
            elim (cases_Bool (int_le n.class bound)) [
              | inl is_true ↦ rw (is_true, found) (ap Some (lower_same n.class least all.0))
              | inr is_false ↦ rw is_false found
            ]
      ]

  -- the first of a class is the first with its number
  pub first_of_is : (class : ℤ) (ns : List (Node V))
      → AllByRecursion (λ (n : Node V). class_of (key_of n.class) ≡ n.class) ns → class_of (key_of class) ≡ class
      → first_slot (of_key (key_of class) ns) ≡ first_slot_of class ns
  first_of_is class [] fit fits = refl
  first_of_is class (n ∷ ns) fit fits =
      elim (cases_eq (key_of n.class) (key_of class)) [
        | inl same ↦
            let is : n.class ≡ class = sym fit.0 ∙ (ap class_of same ∙ fits) in
            rw (eq-eqb (key_of n.class) (key_of class) same, int_eq_same n.class class is) refl
        | inr ne ↦
            let other : n.class ≢ class = λ e. ne (ap key_of e) in
            rw (ne_eqb (key_of n.class) (key_of class) ne, int_eq_other n.class class other)
            (first_of_is class ns fit.1 fits)
      ]
