-- Maps that are written to at one number after another.
use Rattle.std.proofs.Common.{◌≡◌, ◌∙◌, ℕ, ◌<◌, Bool, true, false, ◌||◌, nat_eq, List, [], ◌∷◌, Some, refl, sym, ap, inl, inr, arith}
use Rattle.std.proofs.lemmas.Bool.{cases_order}
use Rattle.number_maps.specs.Maps.{Numbered, get, put, is_used}
use Rattle.number_maps.proofs.LookUps.{put-less, put-equal, put-greater, get-put-same, get-put-apart}
use Rattle.number_maps.proofs.Order.{same-from-nat_eq}

-- ---- two numbers

below-put : {V : Type 0} (e : ℕ × V) (m : Numbered V) (k j : ℕ) (v w : V) → k < e.0 → k < j
    → put (put (e ∷ m) j w) k v ≡ (k, v) ∷ put (e ∷ m) j w
below-put {V} e m k j v w below lower =
    elim (cases_order j e.0) [
      | inl same ↦
          let is : put (e ∷ m) j w ≡ (e.0, w) ∷ m = put-equal e m j w same
          in ap (λ (r : Numbered V). put r k v) is ∙ put-less (e.0, w) m k v below
          ∙ ap (λ (r : Numbered V). (k, v) ∷ r) (sym is)
      | inr (inl less) ↦
          let is : put (e ∷ m) j w ≡ (j, w) ∷ e ∷ m = put-less e m j w less
          in ap (λ (r : Numbered V). put r k v) is ∙ put-less (j, w) (e ∷ m) k v lower
          ∙ ap (λ (r : Numbered V). (k, v) ∷ r) (sym is)
      | inr (inr more) ↦
          let is : put (e ∷ m) j w ≡ e ∷ put m j w = put-greater e m j w more
          in ap (λ (r : Numbered V). put r k v) is ∙ put-less e (put m j w) k v below
          ∙ ap (λ (r : Numbered V). (k, v) ∷ r) (sym is)
    ]

put-rising : {V : Type 0} (m : Numbered V) (k j : ℕ) (v w : V) → k < j
    → put (put m k v) j w ≡ put (put m j w) k v
put-rising [] k j v w lower = put-greater (k, v) [] j w lower ∙ sym (put-less (j, w) [] k v lower)
put-rising {V} (e ∷ m) k j v w lower =
    elim (cases_order k e.0) [
      | inl same ↦
          let above : e.0 < j = omega (arith, lower, same)
          in ap (λ (r : Numbered V). put r j w) (put-equal e m k v same) ∙ put-greater (e.0, v) m j w above
          ∙ sym (ap (λ (r : Numbered V). put r k v) (put-greater e m j w above) ∙ put-equal e (put m j w) k v same)
      | inr (inl less) ↦
          ap (λ (r : Numbered V). put r j w) (put-less e m k v less) ∙ put-greater (k, v) (e ∷ m) j w lower
          ∙ sym (below-put e m k j v w less lower)
      | inr (inr more) ↦
          let above : e.0 < j = omega (arith, lower, more)
          in ap (λ (r : Numbered V). put r j w) (put-greater e m k v more) ∙ put-greater e (put m k v) j w above
          ∙ ap (λ (r : Numbered V). e ∷ r) (put-rising m k j v w lower)
          ∙ sym (ap (λ (r : Numbered V). put r k v) (put-greater e m j w above) ∙ put-greater e (put m j w) k v more)
    ]

-- it doesn't matter which of two numbers is written first
pub put-apart : {V : Type 0} (m : Numbered V) (k j : ℕ) (v w : V) → nat_eq k j ≡ false
    → put (put m k v) j w ≡ put (put m j w) k v
put-apart m k j v w apart =
    elim (cases_order k j) [
      | inl same ↦ absurd (differ k j apart same)
      | inr (inl less) ↦ put-rising m k j v w less
      | inr (inr more) ↦ sym (put-rising m j k w v more)
    ]
  where
    differ : (a b : ℕ) → nat_eq a b ≡ false → a ≡ b → ⊥
    differ a b apart same = grind arith

-- ---- the same value at many numbers

-- the same value at each of these numbers
abbrev pub put_each : {V : Type 0} → V → Numbered V → List ℕ → Numbered V
put_each v m [] = m
put_each v m (n ∷ ns) = put_each v (put m n v) ns

-- neither of two tests holds
pub neither : (a b : Bool) → (a || b) ≡ false → (a ≡ false) × (b ≡ false)
neither true b h = absurd (cc)
neither false b h = (refl, h)

put-kept : {V : Type 0} (v : V) (m : Numbered V) (n q : ℕ) → get m q ≡ Some v → get (put m n v) q ≡ Some v
put-kept v m n q there = by (nat_eq q n) refl
  where
    by : (b : Bool) → nat_eq q n ≡ b → get (put m n v) q ≡ Some v
    by true is = ap (get (put m n v)) (same-from-nat_eq q n is) ∙ get-put-same m n v
    by false is = get-put-apart m n q v is ∙ there

each-kept : {V : Type 0} (v : V) (m : Numbered V) (ns : List ℕ) (q : ℕ) → get m q ≡ Some v
    → get (put_each v m ns) q ≡ Some v
each-kept v m [] q there = there
each-kept v m (n ∷ ns) q there = each-kept v (put m n v) ns q (put-kept v m n q there)

-- it is at each of them
pub each-in : {V : Type 0} (v : V) (m : Numbered V) (ns : List ℕ) (q : ℕ) → is_used ns q ≡ true
    → get (put_each v m ns) q ≡ Some v
each-in v m [] q h = absurd (cc)
each-in v m (n ∷ ns) q h = by (nat_eq q n) refl h (each-in v (put m n v) ns q)
  where
    by : (b : Bool) → nat_eq q n ≡ b → (b || is_used ns q) ≡ true
        → (is_used ns q ≡ true → get (put_each v (put m n v) ns) q ≡ Some v)
        → get (put_each v (put m n v) ns) q ≡ Some v
    by true is used rest =
        each-kept v (put m n v) ns q (ap (get (put m n v)) (same-from-nat_eq q n is) ∙ get-put-same m n v)
    by false is used rest = rest used

-- at all others the map is as it was
pub each-out : {V : Type 0} (v : V) (m : Numbered V) (ns : List ℕ) (q : ℕ) → is_used ns q ≡ false
    → get (put_each v m ns) q ≡ get m q
each-out v m [] q h = refl
each-out v m (n ∷ ns) q h =
    let w = neither (nat_eq q n) (is_used ns q) h
    in each-out v (put m n v) ns q w.1 ∙ get-put-apart m n q v w.0

-- another number may be written before or afterwards
pub each-apart : {V : Type 0} (v w : V) (m : Numbered V) (ns : List ℕ) (k : ℕ) → is_used ns k ≡ false
    → put_each v (put m k w) ns ≡ put (put_each v m ns) k w
each-apart v w m [] k h = refl
each-apart {V} v w m (n ∷ ns) k h =
    let apart = neither (nat_eq k n) (is_used ns k) h
    in ap (λ (r : Numbered V). put_each v r ns) (put-apart m k n w v apart.0)
    ∙ each-apart v w (put m n v) ns k apart.1
