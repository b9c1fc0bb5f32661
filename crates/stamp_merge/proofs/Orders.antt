-- Two lists in order of stamps, with the same items at each stamp, are the same.
use Rattle.std.proofs.Common.{◌≡◌, ◌≢◌, ℕ, ◌<◌, ◌≤◌, Bool, true, false, cond, List, [], ◌∷◌, nat_eq, refl, ap, sym, subst, ◌∙◌, inl, inr, arith}
use Rattle.std.specs.Bool.{⊤}
use Rattle.std.specs.List.{AllByRecursion, filter}
use Rattle.std.proofs.lemmas.Bool.{cases_eq, eq-eqb, ne_eqb}
use Rattle.stamp_merge.specs.declared.Stamped.{Stamped}
use Rattle.stamp_merge.specs.Merge.{StampsRise}
use Rattle.stamp_merge.specs.Sorted.{IsNotAfter, NoneFalls, stamped}
use Rattle.stamp_merge.proofs.Filters.{all-map, filter-yes, filter-no}

-- ---- stamps that don't fall

abbrev pub StampsDontFall : {T : Type 0} → List (Stamped T) → Type 0
StampsDontFall [] = ⊤
StampsDontFall (e ∷ items) = AllByRecursion (λ f. e.stamp ≤ f.stamp) items × StampsDontFall items

-- stamps that rise don't fall
pub dont-fall-from-rise : {T : Type 0} (items : List (Stamped T)) → StampsRise items → StampsDontFall items
dont-fall-from-rise [] h = tt
dont-fall-from-rise {T} (e ∷ items) h =
    (all-map (λ (f : Stamped T) (l : e.stamp < f.stamp). omega arith) items h.0, dont-fall-from-rise items h.1)

not-after-low : {T : Type 0} (e f : Stamped T) → IsNotAfter e f → e.stamp ≤ f.stamp
not-after-low e f (inl l) = omega arith
not-after-low e f (inr s) = let same : e.stamp ≡ f.stamp = s.0 in omega arith

-- nor do those of items of which none falls
pub dont-fall-from-none : {T : Type 0} (items : List (Stamped T)) → NoneFalls items → StampsDontFall items
dont-fall-from-none [] h = tt
dont-fall-from-none {T} (e ∷ items) h =
    (all-map (λ (f : Stamped T) n. not-after-low e f n) items h.0, dont-fall-from-none items h.1)

all-kept : {X : Type 0} (P : X → Type 0) (b : Bool) (x : X) (xs : List X) → P x → AllByRecursion P xs
    → AllByRecursion P (cond b (x ∷ xs) xs)
all-kept P true x xs first rest = (first, rest)
all-kept P false x xs first rest = rest

all-filter : {X : Type 0} (P : X → Type 0) (p : X → Bool) (xs : List X) → AllByRecursion P xs
    → AllByRecursion P (filter p xs)
all-filter P p [] all = tt
all-filter P p (x ∷ xs) all = all-kept P (p x) x (filter p xs) all.0 (all-filter P p xs all.1)

kept-falls-not : {T : Type 0} (b : Bool) (e : Stamped T) (items : List (Stamped T))
    → AllByRecursion (λ f. e.stamp ≤ f.stamp) items → StampsDontFall items → StampsDontFall (cond b (e ∷ items) items)
kept-falls-not true e items low rest = (low, rest)
kept-falls-not false e items low rest = rest

-- nor those of a part
pub dont-fall-filter : {T : Type 0} (p : Stamped T → Bool) (items : List (Stamped T)) → StampsDontFall items
    → StampsDontFall (filter p items)
dont-fall-filter p [] h = tt
dont-fall-filter {T} p (e ∷ items) h =
    kept-falls-not (p e) e (filter p items) (all-filter (λ (f : Stamped T). e.stamp ≤ f.stamp) p items h.0)
    (dont-fall-filter p items h.1)

-- ---- one stamp's items

own-stamp : {T : Type 0} (e : Stamped T) (es : List (Stamped T)) (s : ℕ) → e.stamp ≡ s
    → stamped s (e ∷ es) ≡ e ∷ stamped s es
own-stamp e es s h = filter-yes (λ f. nat_eq f.stamp s) e es (eq-eqb e.stamp s h)

other-stamp : {T : Type 0} (e : Stamped T) (es : List (Stamped T)) (s : ℕ) → e.stamp ≢ s
    → stamped s (e ∷ es) ≡ stamped s es
other-stamp e es s h = filter-no (λ f. nat_eq f.stamp s) e es (ne_eqb e.stamp s h)

-- what holds of all items holds of one stamp's first
first-of : {T : Type 0} (P : Stamped T → Type 0) (s : ℕ) (xs : List (Stamped T)) (y : Stamped T)
    (rest : List (Stamped T)) → stamped s xs ≡ y ∷ rest → AllByRecursion P xs → P y
first-of P s [] y rest h all = absurd (cc)
first-of {T} P s (x ∷ xs) y rest h all =
    elim (cases_eq x.stamp s) [
      | inl e ↦
          let there : x ∷ stamped s xs ≡ y ∷ rest = sym (own-stamp x xs s e) ∙ h
          in let same : x ≡ y = cc
          in subst P same all.0
      | inr d ↦ first-of P s xs y rest (sym (other-stamp x xs s d) ∙ h) all.1
    ]

-- ---- two lists with the same items at each stamp

abbrev Agree : {T : Type 0} → List (Stamped T) → List (Stamped T) → Type 0
Agree xs ys = (s : ℕ) → stamped s xs ≡ stamped s ys

same-stamp : {T : Type 0} (x y : Stamped T) (xs ys : List (Stamped T)) → StampsDontFall (x ∷ xs)
    → StampsDontFall (y ∷ ys) → Agree (x ∷ xs) (y ∷ ys) → x.stamp ≡ y.stamp
same-stamp {T} x y xs ys order order' agree =
    elim (cases_eq x.stamp y.stamp) [
      | inl e ↦ e
      | inr d ↦
          let x_in : stamped x.stamp ys ≡ x ∷ stamped x.stamp xs =
          sym (other-stamp y ys x.stamp (λ e. d (sym e))) ∙ sym (agree x.stamp) ∙ own-stamp x xs x.stamp refl
          in let y_in : stamped y.stamp xs ≡ y ∷ stamped y.stamp ys =
          sym (other-stamp x xs y.stamp d) ∙ agree y.stamp ∙ own-stamp y ys y.stamp refl
          in let low : y.stamp ≤ x.stamp =
          first-of (λ (e : Stamped T). y.stamp ≤ e.stamp) x.stamp ys x (stamped x.stamp xs) x_in order'.0
          in let high : x.stamp ≤ y.stamp =
          first-of (λ (e : Stamped T). x.stamp ≤ e.stamp) y.stamp xs y (stamped y.stamp ys) y_in order.0
          in omega arith
    ]

rest-agrees : {T : Type 0} (x y : Stamped T) (xs ys : List (Stamped T)) → x.stamp ≡ y.stamp
    → Agree (x ∷ xs) (y ∷ ys) → Agree xs ys
rest-agrees x y xs ys same agree s =
    elim (cases_eq x.stamp s) [
      | inl e ↦
          let whole : x ∷ stamped s xs ≡ y ∷ stamped s ys =
          sym (own-stamp x xs s e) ∙ agree s ∙ own-stamp y ys s (sym same ∙ e)
          in cc
      | inr d ↦ sym (other-stamp x xs s d) ∙ agree s ∙ other-stamp y ys s (λ e. d (same ∙ e))
    ]

same-first : {T : Type 0} (x y : Stamped T) (xs ys : List (Stamped T)) → x.stamp ≡ y.stamp
    → Agree (x ∷ xs) (y ∷ ys) → x ≡ y
same-first x y xs ys same agree =
    let whole : x ∷ stamped x.stamp xs ≡ y ∷ stamped x.stamp ys =
    sym (own-stamp x xs x.stamp refl) ∙ agree x.stamp ∙ own-stamp y ys x.stamp (sym same)
    in cc

-- stamps that don't fall leave one order
pub one-order : {T : Type 0} (xs ys : List (Stamped T)) → StampsDontFall xs → StampsDontFall ys → Agree xs ys
    → xs ≡ ys
one-order [] [] order order' agree = refl
one-order [] (y ∷ ys) order order' agree =
    let none : [] ≡ y ∷ stamped y.stamp ys = agree y.stamp ∙ own-stamp y ys y.stamp refl in absurd (cc)
one-order (x ∷ xs) [] order order' agree =
    let none : x ∷ stamped x.stamp xs ≡ [] = sym (own-stamp x xs x.stamp refl) ∙ agree x.stamp in absurd (cc)
one-order {T} (x ∷ xs) (y ∷ ys) order order' agree =
    let same = same-stamp x y xs ys order order' agree
    in let first : x ≡ y = same-first x y xs ys same agree
    in let rest : xs ≡ ys = one-order xs ys order.1 order'.1 (rest-agrees x y xs ys same agree)
    in ap (λ (e : Stamped T). e ∷ xs) first ∙ ap (λ (es : List (Stamped T)). y ∷ es) rest
