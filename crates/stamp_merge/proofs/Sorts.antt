-- What a stable sort by node and then one by stamp leave.
use Rattle.std.proofs.Common.{◌≡◌, ℕ, suc, ◌+◌, ◌<◌, ◌≤◌, not, ◌&&◌, List, [], ◌∷◌, length, get_or, nat_eq, nat_cmp, ap, sym, subst, ◌∙◌, inl, inr, arith}
use Rattle.std.specs.List.{filter}
use Rattle.std.specs.List.Sorted.{IsPermutation, IsSortedByKey, IsStableByKey, ties}
use Rattle.std.specs.Ordering.{is_lt}
use Rattle.std.proofs.lemmas.Bool.{cases_eq}
use Rattle.std.proofs.lemmas.List.Sorted.{IsPermutation-trans, IsNonDecreasingBy-from_sort, ties_still_rise}
use Rattle.stamp_merge.specs.declared.Stamped.{Stamped}
use Rattle.stamp_merge.specs.Merge.{items_of}
use Rattle.stamp_merge.specs.Sorted.{IsNotAfter, NoneFalls, stamped, IsSortOf}
use Rattle.stamp_merge.proofs.Filters.{all-map, filter-swap}

-- ---- what is stable

-- a tie of two numbers is that they are equal
ties-same : (a b : ℕ) → (not (is_lt (nat_cmp a b)) && not (is_lt (nat_cmp b a))) ≡ nat_eq b a
ties-same a b = grind arith

ties-part : {X : Type 0} (key : X → ℕ) (x : X) (xs : List X)
    → filter (ties (λ y z. is_lt (nat_cmp (key y) (key z))) x) xs ≡ filter (λ y. nat_eq (key y) (key x)) xs
ties-part key x xs = λ i. filter (λ y. ties-same (key x) (key y) i) xs

key-stays : {X : Type 0} (key : X → ℕ) (xs ys : List X) → IsStableByKey key nat_cmp xs ys → (x : X)
    → filter (λ y. nat_eq (key y) (key x)) ys ≡ filter (λ y. nat_eq (key y) (key x)) xs
key-stays key xs ys stable x = sym (ties-part key x ys) ∙ stable x ∙ ties-part key x xs

both-stay : {T : Type 0} (xs ys zs : List (Stamped T)) → IsStableByKey (λ e. e.node) nat_cmp xs ys
    → IsStableByKey (λ e. e.stamp) nat_cmp ys zs → (e : Stamped T)
    → stamped e.stamp (items_of e.node zs) ≡ stamped e.stamp (items_of e.node xs)
both-stay xs ys zs by_node by_stamp e =
    filter-swap (λ f. nat_eq f.stamp e.stamp) (λ f. nat_eq f.node e.node) zs
    ∙ ap (items_of e.node) (key-stays (λ f. f.stamp) ys zs by_stamp e)
    ∙ filter-swap (λ f. nat_eq f.node e.node) (λ f. nat_eq f.stamp e.stamp) ys
    ∙ ap (stamped e.stamp) (key-stays (λ f. f.node) xs ys by_node e)

-- ---- what is in order

not-after-far : {T : Type 0} (e f g : Stamped T) → IsNotAfter e f → IsNotAfter f g → IsNotAfter e g
not-after-far e f g (inl a) (inl b) = inl (omega arith)
not-after-far e f g (inl a) (inr b) = let same : f.stamp ≡ g.stamp = b.0 in inl (omega arith)
not-after-far e f g (inr a) (inl b) = let same : e.stamp ≡ f.stamp = a.0 in inl (omega arith)
not-after-far e f g (inr a) (inr b) =
    let low : e.node ≤ f.node = a.1 in let high : f.node ≤ g.node = b.1 in inr (a.0 ∙ b.0, omega arith)

abbrev Neighbours : {T : Type 0} → List (Stamped T) → Type 0
Neighbours {T} zs = (k : ℕ) (d : Stamped T) → k + 1 < length zs → IsNotAfter (get_or zs k d) (get_or zs (k + 1) d)

one-more : (k : ℕ) → suc k + 1 ≡ suc (k + 1)
one-more k = omega arith

rest-neighbours : {T : Type 0} (e f : Stamped T) (zs : List (Stamped T)) → Neighbours (e ∷ f ∷ zs)
    → Neighbours (f ∷ zs)
rest-neighbours e f zs h k d l =
    subst (λ j. IsNotAfter (get_or (f ∷ zs) k d) (get_or (e ∷ f ∷ zs) j d)) (one-more k) (h (suc k) d (omega arith))

all-from-neighbours : {T : Type 0} (zs : List (Stamped T)) → Neighbours zs → NoneFalls zs
all-from-neighbours [] h = tt
all-from-neighbours (e ∷ []) h = (tt, tt)
all-from-neighbours {T} (e ∷ f ∷ zs) h =
    let rest : NoneFalls (f ∷ zs) = all-from-neighbours (f ∷ zs) (rest-neighbours e f zs h)
    in let first : IsNotAfter e f = h 0 e (omega arith)
    in ((first, all-map (λ (g : Stamped T) n. not-after-far e f g first n) zs rest.0), rest)

neighbours : {T : Type 0} (ys zs : List (Stamped T)) → IsSortedByKey (λ e. e.node) nat_cmp ys
    → IsSortedByKey (λ e. e.stamp) nat_cmp zs → IsStableByKey (λ e. e.stamp) nat_cmp ys zs → Neighbours zs
neighbours ys zs by_node by_stamp stable k d l =
    let low : (get_or zs k d).stamp ≤ (get_or zs (k + 1) d).stamp =
    IsNonDecreasingBy-from_sort (λ e. e.stamp) zs by_stamp k (k + 1) d (omega arith) l
    in elim (cases_eq (get_or zs k d).stamp (get_or zs (k + 1) d).stamp) [
      | inl e ↦ inr (e, ties_still_rise (λ f. f.node) (λ f. f.stamp) ys zs by_node stable k d l e)
      | inr n ↦ inl (omega arith)
    ]

-- two stable sorts, the one by node and then the one by stamp, sort by both
pub sorted-by-both : {T : Type 0} (xs ys zs : List (Stamped T)) → IsPermutation xs ys → IsPermutation ys zs
    → IsSortedByKey (λ e. e.node) nat_cmp ys → IsSortedByKey (λ e. e.stamp) nat_cmp zs
    → IsStableByKey (λ e. e.node) nat_cmp xs ys → IsStableByKey (λ e. e.stamp) nat_cmp ys zs → IsSortOf xs zs
sorted-by-both xs ys zs moved moved' by_node by_stamp stable stable' = record {
  none_falls = all-from-neighbours zs (neighbours ys zs by_node by_stamp stable');
  stays = both-stay xs ys zs stable stable';
  all = IsPermutation-trans xs ys zs moved moved';
}
