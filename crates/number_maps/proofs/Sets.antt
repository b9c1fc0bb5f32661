-- Sets of numbers: what is in them after a change.
use Rattle.std.proofs.Common.{◌≡◌, ◌≢◌, ◌⊎◌, ℕ, ◌<◌, Bool, true, false, ◌||◌, List, [], ◌∷◌, refl, ap, sym, subst, ◌∙◌, inl, inr, arith, nat_cmp, nat_eq, Ordering}
use Rattle.std.specs.declared.cmp.Ordering.TheVariants.{Less, Equal, Greater}
use Rattle.std.specs.List.{list_any}
use Rattle.std.specs.Ordering.{is_eq, match_ordering}
use Rattle.std.specs.Set.{remove_key}
use Rattle.std.specs.BTreeMap.{is_at}
use Rattle.std.proofs.lemmas.Bool.{cases_order, cases_eq, eq-eqb, ne_eqb}
use Rattle.number_maps.specs.Maps.{is_used, used_with}
use Rattle.number_maps.proofs.Order.{cmp-equal, cmp-less, cmp-greater, cmp-same, is_at-nat_eq, greater-apart, same-from-nat_eq}

-- the first number, and the later ones
pub used-first : (x : ℕ) (u : List ℕ) (q : ℕ) → q ≡ x → is_used (x ∷ u) q ≡ true
used-first x u q h = rw (eq-eqb q x h) refl

-- another number than the first is used where the rest has it
pub used-later : (x : ℕ) (u : List ℕ) (q : ℕ) → q ≢ x → is_used (x ∷ u) q ≡ is_used u q
used-later x u q h = rw (ne_eqb q x h) refl

with-less : (x : ℕ) (u : List ℕ) (n : ℕ) → n < x → used_with (x ∷ u) n ≡ n ∷ x ∷ u
with-less x u n h = rw (cmp-less n x h) refl

with-equal : (x : ℕ) (u : List ℕ) (n : ℕ) → n ≡ x → used_with (x ∷ u) n ≡ x ∷ u
with-equal x u n h = rw (cmp-equal n x h) refl

with-greater : (x : ℕ) (u : List ℕ) (n : ℕ) → x < n → used_with (x ∷ u) n ≡ x ∷ used_with u n
with-greater x u n h = rw (cmp-greater n x h) refl

-- a number that was added is used
pub used-with-same : (u : List ℕ) (n : ℕ) → is_used (used_with u n) n ≡ true
used-with-same [] n = used-first n [] n refl
used-with-same (x ∷ u) n =
    elim (cases_order n x) [
      | inl same ↦ ap (λ r. is_used r n) (with-equal x u n same) ∙ used-first x u n same
      | inr c ↦
          elim c [
            | inl l ↦ ap (λ r. is_used r n) (with-less x u n l) ∙ used-first n (x ∷ u) n refl
            | inr g ↦
                let ne : n ≢ x = omega arith
                in ap (λ r. is_used r n) (with-greater x u n g)
                ∙ (used-later x (used_with u n) n ne ∙ used-with-same u n)
          ]
    ]

used-ap : (x : ℕ) (u v : List ℕ) (q : ℕ) → is_used u q ≡ is_used v q → is_used (x ∷ u) q ≡ is_used (x ∷ v) q
used-ap x u v q h =
    elim (cases_eq q x) [
      | inl same ↦ used-first x u q same ∙ sym (used-first x v q same)
      | inr ne ↦ used-later x u q ne ∙ (h ∙ sym (used-later x v q ne))
    ]

-- adding a number changes nothing at others
pub used-with-other : (u : List ℕ) (n q : ℕ) → q ≢ n → is_used (used_with u n) q ≡ is_used u q
used-with-other [] n q ne = used-later n [] q ne
used-with-other (x ∷ u) n q ne =
    elim (cases_order n x) [
      | inl same ↦ ap (λ r. is_used r q) (with-equal x u n same)
      | inr c ↦
          elim c [
            | inl l ↦ ap (λ r. is_used r q) (with-less x u n l) ∙ used-later n (x ∷ u) q ne
            | inr g ↦ ap (λ r. is_used r q) (with-greater x u n g)
                ∙ used-ap x (used_with u n) u q (used-with-other u n q ne)
          ]
    ]

-- a used number stays used
pub used-stays : (u : List ℕ) (n q : ℕ) → is_used u q ≡ true → is_used (used_with u n) q ≡ true
used-stays u n q h =
    elim (cases_eq q n) [
      | inl same ↦ subst (λ (r : ℕ). is_used (used_with u n) r ≡ true) (sym same) (used-with-same u n)
      | inr ne ↦ used-with-other u n q ne ∙ h
    ]

-- a number is used afterwards where it was added or used before
pub used-with : (used : List ℕ) (n q : ℕ) → (nat_eq q n ≡ true) ⊎ (is_used used q ≡ true)
    → is_used (used_with used n) q ≡ true
used-with used n q (inl same) =
    subst (λ (r : ℕ). is_used (used_with used n) r ≡ true) (sym (same-from-nat_eq q n same)) (used-with-same used n)
used-with used n q (inr there) = used-stays used n q there

-- as the code's ordered set has it
pub contains-is_used : (used : List ℕ) (n : ℕ) → list_any (is_at (nat_cmp n)) used ≡ is_used used n
contains-is_used [] n = refl
contains-is_used (x ∷ xs) n = rw (is_at-nat_eq n x) (ap (λ (b : Bool). nat_eq n x || b) (contains-is_used xs n))

taken_back : (n x : ℕ) (xs rest : List ℕ) (o : Ordering) → nat_cmp n x ≡ o → (nat_eq n x || is_used xs n) ≡ false
    → (is_used xs n ≡ false → remove_key (is_at (nat_cmp n)) rest ≡ xs)
    → remove_key (is_at (nat_cmp n)) (match_ordering o (n ∷ x ∷ xs) (x ∷ xs) (x ∷ rest)) ≡ x ∷ xs
taken_back n x xs rest Less h new rec = rw (cmp-same n)
taken_back n x xs rest Equal h new rec =
    let yes : nat_eq n x ≡ true = sym (is_at-nat_eq n x) ∙ ap is_eq h in let no : true ≡ false =
    rw yes at new in absurd (cc)
taken_back n x xs rest Greater h new rec =
    let later : is_used xs n ≡ false = rw (greater-apart n x h) at new in rw (h, rec later)

-- a new number that is taken out again leaves the set as it was
pub remove-used : (used : List ℕ) (n : ℕ) → is_used used n ≡ false
    → remove_key (is_at (nat_cmp n)) (used_with used n) ≡ used
remove-used [] n new = rw (cmp-same n)
remove-used (x ∷ xs) n new = taken_back n x xs (used_with xs n) (nat_cmp n x) refl new (remove-used xs n)
