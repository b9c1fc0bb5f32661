-- Who has the range of a number, and that a number in use is in nobody's lease.
use Rattle.std.proofs.Common.{◌≡◌, ◌≢◌, ◌⊎◌, ℕ, zero, suc, ◌+◌, ◌-◌, ◌*◌, ◌/◌, ◌<◌, ◌≤◌, Bool, true, false, ◌||◌, not, if◌then◌else◌, List, [], ◌∷◌, drop, slice_get, nat_eq, Some, None, refl, ap, sym, subst, ◌∙◌, inl, inr, arith}
use Rattle.std.specs.List.{list_any, range_with_len}
use Rattle.std.proofs.lemmas.Bool.{eqb-true, ne_eqb, false≢true}
use Rattle.node_model.specs.Directory.{maker_in}
use Rattle.node_model.specs.Leases.{lease_of}
use Rattle.world_laws.specs.Ranges.{KindSight, KindHolds, IsRangeOf, IsRestOf, is_given, is_in_lease}

or-cases : (a b : Bool) → (a || b) ≡ true → (a ≡ true) ⊎ (b ≡ true)
or-cases true b h = inl refl
or-cases false b h = inr h

-- the numbers of a range are within it
pub in-range : (first count x : ℕ) → list_any (nat_eq x) (range_with_len first count) ≡ true
    → (first ≤ x) × (x < first + count)
in-range first zero x h = absurd (false≢true h)
in-range first (suc count) x h =
    elim (or-cases (nat_eq x first) (list_any (nat_eq x) (range_with_len (first + 1) count)) h) [
      | inl here ↦ let e = eqb-true x first here in (omega (arith, e), omega (arith, e))
      | inr later ↦
          let both = in-range (first + 1) count x later
          in let low = both.0
          in let high = both.1
          in (omega (arith, low), omega (arith, high))
    ]

in-rest : (x k : ℕ) (xs : List ℕ) → list_any (nat_eq x) (drop k xs) ≡ true → list_any (nat_eq x) xs ≡ true
in-rest x zero xs h = h
in-rest x (suc k) [] h = h
in-rest x (suc k) (y ∷ xs) h = behind (nat_eq x y) (in-rest x k xs h)
  where
    behind : (t : Bool) → list_any (nat_eq x) xs ≡ true → (t || list_any (nat_eq x) xs) ≡ true
    behind true g = refl
    behind false g = g

same-range : (index x : ℕ) → index * 8 + 1 ≤ x → x < index * 8 + 1 + 8 → (x - 1) / 8 ≡ index
same-range index x low high = omega (arith, low, high)

-- the numbers of a range have its maker
pub maker-in-range : (ranges : List ℕ) (first node x : ℕ) → IsRangeOf ranges first node
    → list_any (nat_eq x) (lease_of first) ≡ true → maker_in ranges x ≡ Some node
maker-in-range ranges first node x r h =
    let both = in-range first 8 x h
    in let start : first ≡ r.index * 8 + 1 = r.first_is
    in let low : r.index * 8 + 1 ≤ x = omega (arith, both.0, start)
    in let high : x < r.index * 8 + 1 + 8 = omega (arith, both.1, start)
    in let same : (x - 1) / 8 ≡ (first - 1) / 8 =
    same-range r.index x low high
    ∙ sym (same-range r.index first (omega (arith, start)) (omega (arith, start)))
    in number-there x (omega (arith, low))
    ∙ ap (λ i. slice_get ranges i) same ∙ sym (number-there first (omega (arith, start))) ∙ r.maker
  where
    number-there : (y : ℕ) → 1 ≤ y → maker_in ranges y ≡ slice_get ranges ((y - 1) / 8)
    number-there y low =
        let some : y ≢ 0 = λ e. omega (arith, e, low)
        in ap (λ t. if t then None else slice_get ranges ((y - 1) / 8)) (ne_eqb y 0 some)

-- so have those of its rest
pub maker-of-rest : (ranges numbers : List ℕ) (node x : ℕ) → IsRestOf ranges numbers node
    → list_any (nat_eq x) numbers ≡ true → maker_in ranges x ≡ Some node
maker-of-rest ranges numbers node x r h =
    maker-in-range ranges r.first node x r.range
    (in-rest x r.taken (lease_of r.first) (subst (λ ns. list_any (nat_eq x) ns ≡ true) r.rest h))

some-node : (a b : ℕ) → Some a ≡ Some b → a ≡ b
some-node a b h = cc

-- a number in use is to be taken nowhere
pub used-is-taken : (born : ℕ → Bool) (x : KindSight) → KindHolds born x → (number h : ℕ) → 1 ≤ h
    → x.used number ≡ true → list_any (nat_eq number) (x.leases h) ≡ false
used-is-taken born x k number h low used = by-test (list_any (nat_eq number) (x.leases h)) refl
  where
    none-there : x.leases h ≡ [] → list_any (nat_eq number) (x.leases h) ≡ true → ⊥
    none-there e t = false≢true (ap (λ ns. list_any (nat_eq number) ns) (sym e) ∙ t)

    not-both : (a b : Bool) → a ≡ true → not (a || b) ≡ true → ⊥
    not-both true b e g = false≢true g
    not-both false b e g = false≢true e

    in-lease : IsRestOf x.ranges (x.leases h) h → list_any (nat_eq number) (x.leases h) ≡ true → ⊥
    in-lease r t =
        not-both (list_any (nat_eq number) (x.leases h)) (list_any (is_in_lease number) (x.coming h)) t
        (ap (is_given x number) (sym (maker-of-rest x.ranges (x.leases h) h number r t))
        ∙ sym (k.used number) ∙ used)

    by-test : (t : Bool) → list_any (nat_eq number) (x.leases h) ≡ t → list_any (nat_eq number) (x.leases h) ≡ false
    by-test false e = e
    by-test true e =
        absurd (elim (k.leases h low) [ inl none ↦ none-there none e | inr r ↦ in-lease r e ])

-- number 0 is never used
pub zero-is-unused : (born : ℕ → Bool) (x : KindSight) → KindHolds born x → x.used 0 ≡ false
zero-is-unused born x k = k.used 0
