-- What a map has at a number, after a change.
use Rattle.std.proofs.Common.{◌≡◌, ◌≢◌, ℕ, ◌<◌, Bool, true, false, not, List, [], ◌∷◌, Some, None, refl, ap, sym, ◌∙◌, inl, inr, arith, nat_eq}
use Rattle.std.specs.List.{filter}
use Rattle.std.proofs.lemmas.Bool.{cases_order, cases_eq, eq-eqb, ne_eqb, eqb-false, not_from_true, not_from_false}
use Rattle.number_maps.specs.Maps.{Numbered, get, put, without}
use Rattle.number_maps.proofs.Order.{cmp-equal, cmp-less, cmp-greater, at-same, at-other}

-- the first entry
pub get-first : {V : Type 0} (e : ℕ × V) (m : Numbered V) (q : ℕ) → q ≡ e.0 → get (e ∷ m) q ≡ Some e.1
get-first e m q h = rw (at-same q e.0 h) refl

-- at another number than the first a map has what its rest has
pub get-later : {V : Type 0} (e : ℕ × V) (m : Numbered V) (q : ℕ) → q ≢ e.0 → get (e ∷ m) q ≡ get m q
get-later e m q h = rw (at-other q e.0 h) refl

-- a put, by how the number compares to the first one
pub put-less : {V : Type 0} (e : ℕ × V) (m : Numbered V) (k : ℕ) (v : V) → k < e.0 → put (e ∷ m) k v ≡ (k, v) ∷ e ∷ m
put-less e m k v h = rw (cmp-less k e.0 h) refl

-- a value put at the first number replaces the first
pub put-equal : {V : Type 0} (e : ℕ × V) (m : Numbered V) (k : ℕ) (v : V) → k ≡ e.0 → put (e ∷ m) k v ≡ (e.0, v) ∷ m
put-equal e m k v h = rw (cmp-equal k e.0 h) refl

-- a value put at a higher number goes into the rest
pub put-greater : {V : Type 0} (e : ℕ × V) (m : Numbered V) (k : ℕ) (v : V) → e.0 < k → put (e ∷ m) k v ≡ e ∷ put m k v
put-greater e m k v h = rw (cmp-greater k e.0 h) refl

-- a value that is put is there, and the others stay
pub get-put-same : {V : Type 0} (m : Numbered V) (k : ℕ) (v : V) → get (put m k v) k ≡ Some v
get-put-same [] k v = get-first (k, v) [] k refl
get-put-same (e ∷ m) k v =
    elim (cases_order k e.0) [
      | inl same ↦ ap (λ r. get r k) (put-equal e m k v same) ∙ get-first (e.0, v) m k same
      | inr c ↦
          elim c [
            | inl l ↦ ap (λ r. get r k) (put-less e m k v l) ∙ get-first (k, v) (e ∷ m) k refl
            | inr g ↦
                let ne : k ≢ e.0 = omega arith
                in ap (λ r. get r k) (put-greater e m k v g) ∙ (get-later e (put m k v) k ne ∙ get-put-same m k v)
          ]
    ]

get-ap : {V : Type 0} (e : ℕ × V) (m n : Numbered V) (q : ℕ) → get m q ≡ get n q → get (e ∷ m) q ≡ get (e ∷ n) q
get-ap e m n q h =
    elim (cases_eq q e.0) [
      | inl same ↦ get-first e m q same ∙ sym (get-first e n q same)
      | inr ne ↦ get-later e m q ne ∙ (h ∙ sym (get-later e n q ne))
    ]

-- `put` changes nothing at other numbers
pub get-put-other : {V : Type 0} (m : Numbered V) (k : ℕ) (v : V) (q : ℕ) → q ≢ k → get (put m k v) q ≡ get m q
get-put-other [] k v q ne = get-later (k, v) [] q ne
get-put-other (e ∷ m) k v q ne =
    elim (cases_order k e.0) [
      | inl same ↦
          let ne' : q ≢ e.0 = λ h. ne (h ∙ sym same)
          in ap (λ r. get r q) (put-equal e m k v same) ∙ (get-later (e.0, v) m q ne' ∙ sym (get-later e m q ne'))
      | inr c ↦
          elim c [
            | inl l ↦ ap (λ r. get r q) (put-less e m k v l) ∙ get-later (k, v) (e ∷ m) q ne
            | inr g ↦ ap (λ r. get r q) (put-greater e m k v g) ∙ get-ap e (put m k v) m q (get-put-other m k v q ne)
          ]
    ]

-- a filter keeps an entry or drops it
pub filter-kept : {X : Type 0} (p : X → Bool) (x : X) (xs : List X) → p x ≡ true → filter p (x ∷ xs) ≡ x ∷ filter p xs
filter-kept p x xs h = rw h refl

-- a first element that the test refuses falls away
pub filter-dropped : {X : Type 0} (p : X → Bool) (x : X) (xs : List X) → p x ≡ false → filter p (x ∷ xs) ≡ filter p xs
filter-dropped p x xs h = rw h refl

-- nothing stands at a number that was taken out
pub get-without-same : {V : Type 0} (m : Numbered V) (k : ℕ) → get (without m k) k ≡ None
get-without-same [] k = refl
get-without-same {V} (e ∷ m) k =
    let p : ℕ × V → Bool = λ d. not (nat_eq k d.0)
    in elim (cases_eq k e.0) [
      | inl same ↦ ap (λ r. get r k) (filter-dropped p e m (not_from_true (nat_eq k e.0) (eq-eqb k e.0 same)))
          ∙ get-without-same m k
      | inr ne ↦
          ap (λ r. get r k) (filter-kept p e m (not_from_false (nat_eq k e.0) (ne_eqb k e.0 ne)))
          ∙ (get-later e (without m k) k ne ∙ get-without-same m k)
    ]

-- and at others what stood there
pub get-without-other : {V : Type 0} (m : Numbered V) (k q : ℕ) → q ≢ k → get (without m k) q ≡ get m q
get-without-other [] k q ne = refl
get-without-other {V} (e ∷ m) k q ne =
    let p : ℕ × V → Bool = λ d. not (nat_eq k d.0)
    in elim (cases_eq k e.0) [
      | inl same ↦
          ap (λ r. get r q) (filter-dropped p e m (not_from_true (nat_eq k e.0) (eq-eqb k e.0 same)))
          ∙ (get-without-other m k q ne ∙ sym (get-later e m q (λ h. ne (h ∙ sym same))))
      | inr apart ↦
          ap (λ r. get r q) (filter-kept p e m (not_from_false (nat_eq k e.0) (ne_eqb k e.0 apart)))
          ∙ get-ap e (without m k) m q (get-without-other m k q ne)
    ]

-- the same, where the two numbers are told apart by a test
pub get-put-apart : {V : Type 0} (m : Numbered V) (k q : ℕ) (v : V) → nat_eq q k ≡ false → get (put m k v) q ≡ get m q
get-put-apart m k q v apart = get-put-other m k v q (eqb-false q k apart)
