-- Maps by rising number: what the first entry and the rest have, and that changes keep them so.
use Rattle.std.proofs.Common.{◌≡◌, ◌≢◌, ℕ, ◌<◌, Bool, [], ◌∷◌, None, refl, subst, ◌∙◌, sym, inl, inr, arith}
use Rattle.std.specs.List.{filter, AllByRecursion}
use Rattle.std.specs.List.Sorted.{IsStrictlySortedBy}
use Rattle.std.specs.Ordering.{nat_cmp}
use Rattle.std.specs.declared.cmp.Ordering.TheVariants.{Less}
use Rattle.std.specs.Map.{keys_of}
use Rattle.std.proofs.lemmas.Bool.{cases_order, cases_Bool}
use Rattle.std.proofs.lemmas.Map.Keys.{sorted_head, sorted_tail}
use Rattle.number_maps.specs.Maps.{Numbered, get, put}
use Rattle.number_maps.specs.Rising.{IsRising}
use Rattle.number_maps.proofs.Order.{cmp-less, less-below}
use Rattle.number_maps.proofs.LookUps.{put-less, put-equal, put-greater, filter-kept, filter-dropped, get-later}

-- each number is above this one
abbrev pub Above : {V : Type 0} → ℕ → Numbered V → Type 0
Above n [] = Unit {0}
Above n (e ∷ m) = (n < e.0) × Above n m

-- The order of std's maps says the same entry by entry.

above-by_order : {V : Type 0} (n : ℕ) (m : Numbered V) → AllByRecursion (λ y. nat_cmp n y ≡ Less) (keys_of m)
    → Above n m
above-by_order n [] h = tt
above-by_order n (e ∷ m) h = (less-below n e.0 h.0, above-by_order n m h.1)

by_order-above : {V : Type 0} (n : ℕ) (m : Numbered V) → Above n m
    → AllByRecursion (λ y. nat_cmp n y ≡ Less) (keys_of m)
by_order-above n [] a = tt
by_order-above n (e ∷ m) a = (cmp-less n e.0 a.0, by_order-above n m a.1)

-- nothing is in no order
pub rising-nothing : (V : Type 0) → IsRising {V = V} []
unfolding IsStrictlySortedBy
rising-nothing V = tt

-- the first number is below the others
pub above-first : {V : Type 0} (e : ℕ × V) (m : Numbered V) → IsRising (e ∷ m) → Above e.0 m
above-first e m r = above-by_order e.0 m (sorted_head nat_cmp e.0 (keys_of m) r)

-- what stands behind the first rises
pub rising-rest : {V : Type 0} (e : ℕ × V) (m : Numbered V) → IsRising (e ∷ m) → IsRising m
rising-rest e m r = sorted_tail nat_cmp e.0 (keys_of m) r

-- a number below all in front of numbers that rise
pub rising-behind : {V : Type 0} (e : ℕ × V) (m : Numbered V) → Above e.0 m → IsRising m → IsRising (e ∷ m)
unfolding IsStrictlySortedBy
rising-behind e m a r = (by_order-above e.0 m a, r)

-- what is above a number is above each lower one
pub above-lower : {V : Type 0} (n k : ℕ) (m : Numbered V) → n < k → Above k m → Above n m
above-lower n k [] h a = tt
above-lower n k (e ∷ m) h a = (let f : k < e.0 = a.0 in omega arith, above-lower n k m h a.1)

above-put : {V : Type 0} (n : ℕ) (m : Numbered V) (k : ℕ) (v : V) → n < k → Above n m → Above n (put m k v)
above-put n [] k v h a = (h, tt)
above-put {V} n (e ∷ m) k v h a =
    let P : Numbered V → Type 0 = λ r. Above n r
    in elim (cases_order k e.0) [
      | inl same ↦ subst P (sym (put-equal e m k v same)) a
      | inr c ↦
          elim c [
            | inl l ↦ subst P (sym (put-less e m k v l)) (h, a)
            | inr g ↦ subst P (sym (put-greater e m k v g)) (a.0, above-put n m k v h a.1)
          ]
    ]

-- `put` keeps a map by rising number
pub rising-put : {V : Type 0} (m : Numbered V) (k : ℕ) (v : V) → IsRising m → IsRising (put m k v)
rising-put [] k v r = rising-behind (k, v) [] tt r
rising-put {V} (e ∷ m) k v r =
    let P : Numbered V → Type 0 = λ s. IsRising s
    in let above = above-first e m r
    in let rest = rising-rest e m r
    in elim (cases_order k e.0) [
      | inl same ↦ subst P (sym (put-equal e m k v same)) (rising-behind (e.0, v) m above rest)
      | inr c ↦
          elim c [
            | inl l ↦
                subst P (sym (put-less e m k v l))
                (rising-behind (k, v) (e ∷ m) (l, above-lower k e.0 m l above) r)
            | inr g ↦
                subst P (sym (put-greater e m k v g))
                (rising-behind e (put m k v) (above-put e.0 m k v g above) (rising-put m k v rest))
          ]
    ]

above-filter : {V : Type 0} (p : ℕ × V → Bool) (n : ℕ) (m : Numbered V) → Above n m → Above n (filter p m)
above-filter p n [] a = tt
above-filter {V} p n (e ∷ m) a =
    let P : Numbered V → Type 0 = λ r. Above n r
    in elim (cases_Bool (p e)) [
      | inl t ↦ subst P (sym (filter-kept p e m t)) (a.0, above-filter p n m a.1)
      | inr f ↦ subst P (sym (filter-dropped p e m f)) (above-filter p n m a.1)
    ]

-- what is left of a map by rising number rises
pub rising-filter : {V : Type 0} (p : ℕ × V → Bool) (m : Numbered V) → IsRising m → IsRising (filter p m)
rising-filter p [] r = r
rising-filter {V} p (e ∷ m) r =
    let P : Numbered V → Type 0 = λ s. IsRising s
    in let rest = rising-filter p m (rising-rest e m r)
    in elim (cases_Bool (p e)) [
      | inl t ↦
          subst P (sym (filter-kept p e m t))
          (rising-behind e (filter p m) (above-filter p e.0 m (above-first e m r)) rest)
      | inr f ↦ subst P (sym (filter-dropped p e m f)) rest
    ]

-- nothing stands at a number that is below all
pub get-above : {V : Type 0} (n : ℕ) (m : Numbered V) → Above n m → get m n ≡ None
get-above n [] a = refl
get-above n (e ∷ m) a = let l : n < e.0 = a.0 in let ne : n ≢ e.0 =
    omega arith in get-later e m n ne ∙ get-above n m a.1
