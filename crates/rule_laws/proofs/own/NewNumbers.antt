-- A number that a node takes from its lease: it was unused, and what holds of its kind once it is used.
use Rattle.std.proofs.Common.{◌≡◌, ◌≢◌, ◌⊎◌, ℕ, zero, suc, ◌+◌, ◌<◌, ◌≤◌, Bool, true, false, ◌||◌, not, if◌then◌else◌, List, [], ◌∷◌, drop, nat_eq, Option, Some, None, refl, ap, sym, subst, ◌∙◌, inl, inr, arith}
use Rattle.std.specs.List.{list_any, range_with_len}
use Rattle.std.proofs.lemmas.Bool.{cases_eq, eq-eqb, eqb-true, ne_eqb}
use Rattle.node_model.specs.Directory.{maker_in}
use Rattle.node_model.specs.Leases.{lease_of}
use Rattle.world_laws.specs.Ranges.{IsRestOf, KindHolds, KindSight, is_given, is_in_lease}
use Rattle.world_laws.proofs.Numbers.{maker-of-rest}

-- what is seen of a kind once this node has taken a number and has these left
abbrev pub taken-at : KindSight → ℕ → ℕ → List ℕ → KindSight
taken-at x p number numbers =
    record x {
      used = λ m. nat_eq m number || x.used m;
      leases = λ h. if nat_eq h p then numbers else x.leases h;
    }

no-more : (n : ℕ) (ns : List ℕ) → [] ≡ n ∷ ns → ⊥
no-more n ns h = cc

first-is : (a c : ℕ) (xs ys : List ℕ) → a ∷ xs ≡ c ∷ ys → a ≡ c
first-is a c xs ys h = cc

rest-is : (a c : ℕ) (xs ys : List ℕ) → a ∷ xs ≡ c ∷ ys → xs ≡ ys
rest-is a c xs ys h = cc

-- a number isn't in a range that begins behind it
behind : (m first count : ℕ) → m < first → list_any (nat_eq m) (range_with_len first count) ≡ false
behind m first zero low = refl
behind m first (suc count) low =
    ap (λ t. t || list_any (nat_eq m) (range_with_len (first + 1) count))
    (ne_eqb m first (λ e. omega (arith, e, low)))
    ∙ behind m (first + 1) count (omega (arith, low))

-- the rest of a range has its first number once
once-in-rest : (first count t number : ℕ) (numbers : List ℕ)
    → number ∷ numbers ≡ drop t (range_with_len first count) → list_any (nat_eq number) numbers ≡ false
once-in-rest first zero zero number numbers h = absurd (no-more number numbers (sym h))
once-in-rest first zero (suc t) number numbers h = absurd (no-more number numbers (sym h))
once-in-rest first (suc count) zero number numbers h =
    ap (list_any (nat_eq number)) (rest-is number first numbers (range_with_len (first + 1) count) h)
    ∙ behind number (first + 1) count
    (let same = first-is number first numbers (range_with_len (first + 1) count) h in omega (arith, same))
once-in-rest first (suc count) (suc t) number numbers h = once-in-rest (first + 1) count t number numbers h

-- and without it is the rest from the next one on
rest-of-rest : (xs : List ℕ) (t number : ℕ) (numbers : List ℕ) → number ∷ numbers ≡ drop t xs
    → numbers ≡ drop (t + 1) xs
rest-of-rest [] zero number numbers h = absurd (no-more number numbers (sym h))
rest-of-rest [] (suc t) number numbers h = absurd (no-more number numbers (sym h))
rest-of-rest (x ∷ xs) zero number numbers h = rest-is number x numbers xs h
rest-of-rest (x ∷ xs) (suc t) number numbers h =
    rest-of-rest xs t number numbers h
    ∙ ap (λ (i : ℕ). drop i (x ∷ xs)) (next t)
  where
    next : (t : ℕ) → suc (t + 1) ≡ suc t + 1
    next t = omega arith

module _ (born : ℕ → Bool) (x : KindSight) (k : KindHolds born x) (p : ℕ) (low : 1 ≤ p) (number : ℕ)
    (numbers : List ℕ) (lease : x.leases p ≡ number ∷ numbers) (none : x.coming p ≡ []) where
  rest-of : IsRestOf x.ranges (number ∷ numbers) p
  rest-of =
      elim (k.leases p low) [
        | inl over ↦ absurd (no-more number numbers (sym over ∙ lease))
        | inr r ↦ subst (λ (ns : List ℕ). IsRestOf x.ranges ns p) lease r
      ]

  here : list_any (nat_eq number) (number ∷ numbers) ≡ true
  here = ap (λ t. t || list_any (nat_eq number) numbers) (eq-eqb number number refl)

  -- its range is the node's
  pub taken-maker : maker_in x.ranges number ≡ Some p
  taken-maker = maker-of-rest x.ranges (number ∷ numbers) p number rest-of here

  -- nothing has it
  pub taken-unused : x.used number ≡ false
  taken-unused =
      k.used number
      ∙ ap (is_given x number) taken-maker
      ∙ ap (λ ns. not (list_any (nat_eq number) ns || list_any (is_in_lease number) (x.coming p))) lease
      ∙ ap (λ t. not (t || list_any (is_in_lease number) (x.coming p))) here

  abbrev y : KindSight
  y = taken-at x p number numbers

  once : list_any (nat_eq number) numbers ≡ false
  once = once-in-rest rest-of.first 8 rest-of.taken number numbers rest-of.rest

  free-now : (m h : ℕ) → m ≢ number → is_given y m (Some h) ≡ is_given x m (Some h)
  free-now m h d =
      ap (λ t. not (t || list_any (is_in_lease m) (x.coming h))) (in-lease (nat_eq h p) refl)
    where
      in-lease : (t : Bool) → nat_eq h p ≡ t
          → list_any (nat_eq m) (if t then numbers else x.leases h) ≡ list_any (nat_eq m) (x.leases h)
      in-lease true e =
          sym (ap (λ q. list_any (nat_eq m) (x.leases q)) (eqb-true h p e)
          ∙ ap (list_any (nat_eq m)) lease
          ∙ ap (λ u. u || list_any (nat_eq m) numbers) (ne_eqb m number d))
      in-lease false e = refl

  used-now : (m : ℕ) → (nat_eq m number || x.used m) ≡ is_given y m (maker_in x.ranges m)
  used-now m =
      elim (cases_eq m number) [
        | inl e ↦
            subst (λ z. (nat_eq z number || x.used z) ≡ is_given y z (maker_in x.ranges z)) (sym e)
            (ap (λ t. t || x.used number) (eq-eqb number number refl)
            ∙ sym (ap (is_given y number) taken-maker
            ∙ ap (λ t. not (list_any (nat_eq number) (if t then numbers else x.leases p)
            || list_any (is_in_lease number) (x.coming p))) (eq-eqb p p refl)
            ∙ ap (λ t. not (t || list_any (is_in_lease number) (x.coming p))) once
            ∙ ap (λ cs. not (list_any (is_in_lease number) cs)) none))
        | inr d ↦
            ap (λ t. t || x.used m) (ne_eqb m number d) ∙ k.used m
            ∙ by-maker d (maker_in x.ranges m)
      ]
    where
      by-maker : m ≢ number → (o : Option ℕ) → is_given x m o ≡ is_given y m o
      by-maker d None = refl
      by-maker d (Some h) = sym (free-now m h d)

  -- all holds of the kind
  pub kind-taken : KindHolds born y
  kind-taken =
      record {
        used = used-now;
        leases = λ h low_h. leases-now h low_h (nat_eq h p) refl;
        coming = k.coming;
        one_coming = k.one_coming;
        to_born = k.to_born;
      }
    where
      leases-now : (h : ℕ) → 1 ≤ h → (t : Bool) → nat_eq h p ≡ t
          → ((if t then numbers else x.leases h) ≡ []) ⊎ IsRestOf x.ranges (if t then numbers else x.leases h) h
      leases-now h low_h true e =
          inr
          (subst (λ q. IsRestOf x.ranges numbers q) (sym (eqb-true h p e))
          (record {
            first = rest-of.first;
            range = rest-of.range;
            taken = rest-of.taken + 1;
            rest = rest-of-rest (lease_of rest-of.first) rest-of.taken number numbers rest-of.rest;
          }))
      leases-now h low_h false e = k.leases h low_h
