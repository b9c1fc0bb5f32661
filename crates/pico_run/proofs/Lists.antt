-- Lists whose items have numbers, and lists that were made of others.
use Rattle.std.proofs.Common.{◌≡◌, ℕ, zero, suc, ◌+◌, ◌-◌, ◌<◌, ◌≤◌, List, [], ◌∷◌, ◌++◌, length, map, refl, ap, subst, ◌∙◌, arith, slice_index_or}
use Rattle.std.specs.List.{AllByRecursion}
use Rattle.world_model.specs.World.{numbers}
use Rattle.pico_run.specs.Numbered.{AllFrom}

-- ---- items and their numbers

-- it holds of one more item
pub all-from-more : {A : Type 0} (P : ℕ → A → Type 0) (first : ℕ) (xs : List A) (y : A) → AllFrom P first xs
    → P (first + length xs) y → AllFrom P first (xs ++ y ∷ [])
all-from-more P first [] y all own = let e : first + 0 ≡ first = omega arith in (subst (λ n. P n y) e own, tt)
all-from-more P first (x ∷ xs) y all own =
    let e : first + suc (length xs) ≡ (first + 1) + length xs = omega arith
    in (all.0, all-from-more P (first + 1) xs y all.1 (subst (λ n. P n y) e own))

-- it holds of the images
pub all-from-map : {A B : Type 0} (P : ℕ → A → Type 0) (Q : ℕ → B → Type 0) (f : A → B)
    → ((n : ℕ) (x : A) → P n x → Q n (f x)) → (first : ℕ) (xs : List A) → AllFrom P first xs
    → AllFrom Q first (map f xs)
all-from-map P Q f step first [] all = tt
all-from-map P Q f step first (x ∷ xs) all =
    (step first x all.0, all-from-map P Q f step (first + 1) xs all.1)

-- what holds of each item's image holds of the item
pub all-from-unmap : {A B : Type 0} (Q : ℕ → B → Type 0) (f : A → B) (first : ℕ) (xs : List A)
    → AllFrom Q first (map f xs) → AllFrom (λ n x. Q n (f x)) first xs
all-from-unmap Q f first [] all = tt
all-from-unmap Q f first (x ∷ xs) all = (all.0, all-from-unmap Q f (first + 1) xs all.1)

-- what follows of each item holds of all
pub all-from-step : {A : Type 0} (P Q : ℕ → A → Type 0) → ((n : ℕ) (x : A) → P n x → Q n x) → (first : ℕ)
    (xs : List A) → AllFrom P first xs → AllFrom Q first xs
all-from-step P Q step first [] all = tt
all-from-step P Q step first (x ∷ xs) all = (step first x all.0, all-from-step P Q step (first + 1) xs all.1)

-- two properties hold together
pub all-from-both : {A : Type 0} (P Q : ℕ → A → Type 0) (first : ℕ) (xs : List A) → AllFrom P first xs
    → AllFrom Q first xs → AllFrom (λ n x. P n x × Q n x) first xs
all-from-both P Q first [] all both = tt
all-from-both P Q first (x ∷ xs) all both = ((all.0, both.0), all-from-both P Q (first + 1) xs all.1 both.1)

-- a property without numbers holds with them
pub all-from-all : {A : Type 0} (Q : A → Type 0) (first : ℕ) (xs : List A) → AllByRecursion Q xs
    → AllFrom (λ n x. Q x) first xs
all-from-all Q first [] all = tt
all-from-all Q first (x ∷ xs) all = (all.0, all-from-all Q (first + 1) xs all.1)

-- the numbers go up
pub all-from-above : {A : Type 0} (low first : ℕ) (xs : List A) → low ≤ first → AllFrom (λ n x. low ≤ n) first xs
all-from-above low first [] le = tt
all-from-above low first (x ∷ xs) le = (le, all-from-above low (first + 1) xs (omega arith))

-- the numbers are bounded by the last one
pub all-from-below : {A : Type 0} (high first : ℕ) (xs : List A) → first + length xs ≤ high + 1
    → AllFrom (λ n x. n ≤ high) first xs
all-from-below high first [] le = tt
all-from-below high first (x ∷ xs) le =
    (omega (arith, le), all-from-below high (first + 1) xs (omega (arith, le)))

-- ---- items and their places

-- it holds of the item at a place
pub at-place : {A : Type 0} (P : ℕ → A → Type 0) (first : ℕ) (xs : List A) (k : ℕ) (d : A) → AllFrom P first xs
    → k < length xs → P (first + k) (slice_index_or xs k d)
at-place P first [] k d all lt = absurd (let f : ⊥ = omega (arith, lt) in f)
at-place P first (x ∷ xs) zero d all lt =
    let e : first ≡ first + 0 = omega arith in subst (λ n. P n x) e all.0
at-place P first (x ∷ xs) (suc k) d all lt =
    let e : (first + 1) + k ≡ first + suc k = omega arith
    in subst (λ n. P n (slice_index_or xs k d)) e (at-place P (first + 1) xs k d all.1 (omega (arith, lt)))

-- at the place of a number, where the first is 1
pub at-number : {A : Type 0} (P : ℕ → A → Type 0) (xs : List A) (d : A) (p : ℕ) → AllFrom P 1 xs → 1 ≤ p
    → p ≤ length xs → P p (slice_index_or xs (p - 1) d)
at-number P xs d p all low high =
    let e : 1 + (p - 1) ≡ p = omega arith
    in subst (λ n. P n (slice_index_or xs (p - 1) d)) e (at-place P 1 xs (p - 1) d all (omega (arith, low, high)))

-- what was done at each place
pub all-from-changed : {A : Type 0} (P Q : ℕ → A → Type 0) (R : A → A → Type 0)
    → ((n : ℕ) (x y : A) → P n x → R x y → Q n y) → (first : ℕ) (xs ys : List A) → length ys ≡ length xs
    → ((k : ℕ) (d : A) → k < length xs → R (slice_index_or xs k d) (slice_index_or ys k d)) → AllFrom P first xs
    → AllFrom Q first ys
all-from-changed P Q R step first xs [] same changed all = tt
all-from-changed P Q R step first [] (y ∷ ys) same changed all = absurd (let f : ⊥ = omega (arith, same) in f)
all-from-changed P Q R step first (x ∷ xs) (y ∷ ys) same changed all = (
  step first x y all.0 (changed 0 x (omega arith)),
  all-from-changed P Q R step (first + 1) xs ys (omega (arith, same))
      (λ k d lt. changed (suc k) d (omega (arith, lt))) all.1,
)

-- lists whose items have the same images at each place have the same images
pub map-unchanged : {A B : Type 0} (f : A → B) (xs ys : List A) → length ys ≡ length xs
    → ((k : ℕ) (d : A) → k < length xs → f (slice_index_or ys k d) ≡ f (slice_index_or xs k d))
    → map f ys ≡ map f xs
map-unchanged f [] [] same h = refl
map-unchanged f (x ∷ xs) [] same h = absurd (let f : ⊥ = omega (arith, same) in f)
map-unchanged f [] (y ∷ ys) same h = absurd (let f : ⊥ = omega (arith, same) in f)
map-unchanged {B = B} f (x ∷ xs) (y ∷ ys) same h =
    ap (λ (b : B). b ∷ map f ys) (h 0 x (omega arith))
    ∙ ap (λ (bs : List B). f x ∷ bs)
    (map-unchanged f xs ys (omega (arith, same)) (λ k d lt. h (suc k) d (omega (arith, lt))))

-- ---- items by their numbers

-- so many numbers are so many
pub length-numbers : (first count : ℕ) → length (numbers first count) ≡ count
length-numbers first zero = refl
length-numbers first (suc count) = ap suc (length-numbers (first + 1) count)

-- images are as many as items
pub length-map : {A B : Type 0} (f : A → B) (xs : List A) → length (map f xs) ≡ length xs
length-map f [] = refl
length-map f (x ∷ xs) = ap suc (length-map f xs)

-- images of images
pub map-map : {A B C : Type 0} (f : A → B) (g : B → C) (xs : List A) → map g (map f xs) ≡ map (λ x. g (f x)) xs
map-map f g [] = refl
map-map {C = C} f g (x ∷ xs) = ap (λ (zs : List C). g (f x) ∷ zs) (map-map f g xs)

-- the images of one item more
pub map-more : {A B : Type 0} (f : A → B) (xs : List A) (y : A) → map f (xs ++ y ∷ []) ≡ map f xs ++ f y ∷ []
map-more f [] y = refl
map-more {B = B} f (x ∷ xs) y = ap (λ (zs : List B). f x ∷ zs) (map-more f xs y)

by-numbers-from : {A B : Type 0} (f : A → B) (g : ℕ → A) (first : ℕ) (xs : List A)
    → AllFrom (λ n x. g n ≡ x) first xs → map (λ p. f (g p)) (numbers first (length xs)) ≡ map f xs
by-numbers-from f g first [] all = refl
by-numbers-from {B = B} f g first (x ∷ xs) all =
    ap (λ (b : B). b ∷ map (λ p. f (g p)) (numbers (first + 1) (length xs))) (ap f all.0)
    ∙ ap (λ (bs : List B). f x ∷ bs) (by-numbers-from f g (first + 1) xs all.1)

places-from : {A : Type 0} (d : A) (before xs : List A) (first : ℕ) → first ≡ length before + 1
    → AllFrom (λ n x. slice_index_or (before ++ xs) (n - 1) d ≡ x) first xs
places-from d before [] first e = tt
places-from {A} d before (x ∷ xs) first e = (
  here before x xs first e,
  subst (λ (ys : List A). AllFrom (λ n y. slice_index_or ys (n - 1) d ≡ y) (first + 1) xs) (regroup before x xs)
      (places-from d (before ++ x ∷ []) xs (first + 1) (further before x first e)),
)
  where
    here : (before : List A) (x : A) (xs : List A) (first : ℕ) → first ≡ length before + 1
        → slice_index_or (before ++ x ∷ xs) (first - 1) d ≡ x
    here [] x xs first e = let is : first ≡ 1 = e in ap (λ n. slice_index_or (x ∷ xs) (n - 1) d) is
    here (y ∷ before) x xs first e =
        let is : first - 1 ≡ suc (length before) = omega (arith, e)
        in let one : length before ≡ (length before + 1) - 1 = omega arith
        in ap (λ n. slice_index_or (y ∷ before ++ x ∷ xs) n d) is
        ∙ ap (λ n. slice_index_or (before ++ x ∷ xs) n d) one
        ∙ here before x xs (length before + 1) refl

    regroup : (before : List A) (x : A) (xs : List A) → (before ++ x ∷ []) ++ xs ≡ before ++ x ∷ xs
    regroup [] x xs = refl
    regroup (y ∷ before) x xs = ap (λ (zs : List A). y ∷ zs) (regroup before x xs)

    further : (before : List A) (x : A) (first : ℕ) → first ≡ length before + 1
        → first + 1 ≡ length (before ++ x ∷ []) + 1
    further [] x first e = omega (arith, e)
    further (y ∷ before) x first e =
        let one : (first - 1) + 1 ≡ length (before ++ x ∷ []) + 1 =
        further before x (first - 1) (omega (arith, e)) in omega (arith, e, one)

-- a function of each item is that of the item at each number
pub by-numbers : {A B : Type 0} (f : A → B) (xs : List A) (d : A)
    → map (λ p. f (slice_index_or xs (p - 1) d)) (numbers 1 (length xs)) ≡ map f xs
by-numbers f xs d = by-numbers-from f (λ p. slice_index_or xs (p - 1) d) 1 xs (places-from d [] xs 1 refl)

-- ---- a list with a last item

-- a list whose image has a last item has one
pub record HasLast {A B : Type 0} (f : A → B) (xs : List A) (ys : List B) (y : B) : Type 0 where
  pub front : List A
  pub last : A
  pub is : xs ≡ front ++ last ∷ []
  pub front_is : map f front ≡ ys
  pub last_is : f last ≡ y

-- a list whose images have a last one has a last item
pub has-last : {A B : Type 0} (f : A → B) (xs : List A) (ys : List B) (y : B) → map f xs ≡ ys ++ y ∷ []
    → HasLast f xs ys y
has-last f [] [] y e = absurd (let f : ⊥ = cc in f)
has-last f [] (z ∷ ys) y e = absurd (let f : ⊥ = cc in f)
has-last f (x ∷ []) [] y e =
    let own : f x ≡ y = cc in record { front = []; last = x; is = refl; front_is = refl; last_is = own }
has-last f (x ∷ v ∷ xs) [] y e = absurd (let none : f v ∷ map f xs ≡ [] = cc in let f : ⊥ = cc in f)
has-last {A} {B} f (x ∷ xs) (z ∷ ys) y e =
    let own : f x ≡ z = cc
    in let rest : map f xs ≡ ys ++ y ∷ [] = cc
    in let h : HasLast f xs ys y = has-last f xs ys y rest
    in record {
      front = x ∷ h.front;
      last = h.last;
      is = ap (λ (xs : List A). x ∷ xs) h.is;
      front_is = ap (λ (b : B). b ∷ map f h.front) own ∙ ap (λ (bs : List B). z ∷ bs) h.front_is;
      last_is = h.last_is;
    }

-- what has no images has no items
pub none-mapped : {A B : Type 0} (f : A → B) (xs : List A) → map f xs ≡ [] → xs ≡ []
none-mapped f [] e = refl
none-mapped f (x ∷ xs) e = absurd (let f : ⊥ = cc in f)

-- lists that are the same, each with a last item, have the same front and the same last item
pub same-front : {A : Type 0} (xs ys : List A) (x y : A) → xs ++ x ∷ [] ≡ ys ++ y ∷ [] → (xs ≡ ys) × (x ≡ y)
same-front [] [] x y e = (refl, cc)
same-front [] (b ∷ []) x y e = absurd (let none : [] ≡ y ∷ [] = cc in let f : ⊥ = cc in f)
same-front [] (b ∷ c ∷ ys) x y e = absurd (let none : [] ≡ c ∷ ys ++ y ∷ [] = cc in let f : ⊥ = cc in f)
same-front (a ∷ []) [] x y e = absurd (let none : x ∷ [] ≡ [] = cc in let f : ⊥ = cc in f)
same-front (a ∷ c ∷ xs) [] x y e = absurd (let none : c ∷ xs ++ x ∷ [] ≡ [] = cc in let f : ⊥ = cc in f)
same-front {A} (a ∷ xs) (b ∷ ys) x y e =
    let own : a ≡ b = cc
    in let rest : xs ++ x ∷ [] ≡ ys ++ y ∷ [] = cc
    in let h : (xs ≡ ys) × (x ≡ y) = same-front xs ys x y rest
    in (ap (λ (c : A). c ∷ xs) own ∙ ap (λ (zs : List A). b ∷ zs) h.0, h.1)
