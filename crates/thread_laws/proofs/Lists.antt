-- Facts about lists: what is in them, what holds of all that is, and lists of different numbers.
use Rattle.std.proofs.Common.{◌≡◌, ◌≢◌, ℕ, zero, suc, ◌+◌, ◌<◌, ◌≤◌, Bool, true, not, nat_eq, List, [], ◌∷◌, map, refl, ap, sym, subst, ◌∙◌, inl, inr, ◌⊎◌, arith}
use Rattle.std.specs.List.{AllByRecursion, Contains, filter}
use Rattle.std.proofs.lemmas.Bool.{cases_Bool, cases_eq, eqb-false, ne_eqb, not-true}
use Rattle.std.proofs.lemmas.List.Elements.{All-contains, All-filter, All-from_recursion, Contains-append_cases, Contains-append_right, Contains-push_cases, filter_passes, recursion_from_All}
use Rattle.pico_base.specs.declared.script.Script.{Script}
use Rattle.stamp_merge.proofs.Filters.{all-map, filter-no, filter-yes}
use Rattle.world_model.specs.World.{IsNode, numbers, node_count}
use Rattle.log_model.specs.Logged.{others_of}

-- ---- what is in a list

none-there : {X : Type 0} (x : X) → Contains [] x → ⊥
none-there x there = omega (arith, there.1)

-- an item of a list is the first, or one of the rest
pub first-or-later : {X : Type 0} (y : X) (ys : List X) (x : X) → Contains (y ∷ ys) x → (y ≡ x) ⊎ Contains ys x
first-or-later y ys x there =
    elim (Contains-append_cases (y ∷ []) ys x there) [
      | inl here ↦ elim (Contains-push_cases [] y x here) [ inl none ↦ absurd (none-there x none) | inr e ↦ inl e ]
      | inr later ↦ inr later
    ]

pub here : {X : Type 0} (x : X) (xs : List X) → Contains (x ∷ xs) x
here x xs = (0, omega arith, refl)

pub later : {X : Type 0} (y : X) (ys : List X) (x : X) → Contains ys x → Contains (y ∷ ys) x
later y ys x there = Contains-append_right (y ∷ []) ys x there

-- what holds of all that is in a list holds of all of it
pub each-in : {X : Type 0} (P : X → Type 0) (xs : List X) → ((x : X) → Contains xs x → P x) → AllByRecursion P xs
each-in P [] h = tt
each-in P (x ∷ xs) h = (h x (here x xs), each-in P xs (λ y there. h y (later x xs y there)))

-- and the other way round
pub at-one : {X : Type 0} (P : X → Type 0) (xs : List X) (x : X) → AllByRecursion P xs → Contains xs x → P x
at-one P xs x all there = All-contains P xs x (All-from_recursion P xs all) there

-- a mapped item is in the mapped list
pub in-map : {X Y : Type 0} (f : X → Y) (xs : List X) (x : X) → Contains xs x → Contains (map f xs) (f x)
in-map f [] x there = absurd (none-there x there)
in-map {Y = Y} f (y ∷ ys) x there =
    elim (first-or-later y ys x there) [
      | inl e ↦ subst (λ z. Contains (map f (y ∷ ys)) (f z)) e (here (f y) (map f ys))
      | inr behind ↦ later (f y) (map f ys) (f x) (in-map f ys x behind)
    ]

-- an element of a map, and what it was made of
pub record IsMade {X Y : Type 0} (f : X → Y) (xs : List X) (y : Y) : Type 0 where
  pub from : X
  pub there : Contains xs from
  pub is : f from ≡ y

-- an item of a mapped list is made of one of the list
pub of-map : {X Y : Type 0} (f : X → Y) (xs : List X) (y : Y) → Contains (map f xs) y → IsMade f xs y
of-map f [] y there = absurd (none-there y there)
of-map f (x ∷ xs) y there =
    elim (first-or-later (f x) (map f xs) y there) [
      | inl e ↦ record { from = x; there = here x xs; is = e }
      | inr behind ↦
          let made = of-map f xs y behind
          in record { from = made.from; there = later x xs made.from made.there; is = made.is }
    ]

pub in-filter : {X : Type 0} (p : X → Bool) (xs : List X) (x : X) → Contains xs x → p x ≡ true
    → Contains (filter p xs) x
in-filter p [] x there passes = absurd (none-there x there)
in-filter p (y ∷ ys) x there passes =
    elim (first-or-later y ys x there) [
      | inl e ↦
          let first : filter p (y ∷ ys) ≡ y ∷ filter p ys = filter-yes p y ys (ap p e ∙ passes)
          in subst (λ zs. Contains zs x) (sym first)
          (subst (λ z. Contains (y ∷ filter p ys) z) e (here y (filter p ys)))
      | inr behind ↦
          let rest = in-filter p ys x behind passes
          in elim (cases_Bool (p y)) [
            | inl pass ↦
                subst (λ zs. Contains zs x) (sym (filter-yes p y ys pass)) (later y (filter p ys) x rest)
            | inr fails ↦ subst (λ zs. Contains zs x) (sym (filter-no p y ys fails)) rest
          ]
    ]

pub passes-filter : {X : Type 0} (p : X → Bool) (xs : List X) (x : X) → Contains (filter p xs) x → p x ≡ true
passes-filter p xs x there = All-contains (λ y. p y ≡ true) (filter p xs) x (filter_passes p xs) there

-- what holds of all of a list holds of what is left of it
pub all-left : {X : Type 0} (P : X → Type 0) (p : X → Bool) (xs : List X) → AllByRecursion P xs
    → AllByRecursion P (filter p xs)
all-left P p xs all = recursion_from_All P (filter p xs) (All-filter p P xs (All-from_recursion P xs all))

-- ---- different numbers

-- each number is another than those behind it
abbrev pub AreApart : List ℕ → Type 0
AreApart [] = Unit {0}
AreApart (n ∷ ns) = AllByRecursion (λ m. n ≢ m) ns × AreApart ns

apart-left : (p : ℕ → Bool) (ns : List ℕ) → AreApart ns → AreApart (filter p ns)
apart-left p [] apart = tt
apart-left p (n ∷ ns) apart =
    elim (cases_Bool (p n)) [
      | inl pass ↦
          subst AreApart (sym (filter-yes p n ns pass))
          (all-left (λ m. n ≢ m) p ns apart.0, apart-left p ns apart.1)
      | inr fails ↦ subst AreApart (sym (filter-no p n ns fails)) (apart-left p ns apart.1)
    ]

-- one of so many numbers from the first on
pub record IsAmong (first count n : ℕ) : Type 0 where
  pub low : first ≤ n
  pub high : n < first + count

numbers-among : (first count : ℕ) → AllByRecursion (IsAmong first count) (numbers first count)
numbers-among first zero = tt
numbers-among first (suc count) = (
  record { low = omega arith; high = omega arith },
  all-map (λ n is. wider n is) (numbers (first + 1) count) (numbers-among (first + 1) count),
)
  where
    wider : (n : ℕ) → IsAmong (first + 1) count n → IsAmong first (suc count) n
    wider n is =
        let low = is.low in let high = is.high in record { low = omega arith; high = omega arith }

numbers-apart : (first count : ℕ) → AreApart (numbers first count)
numbers-apart first zero = tt
numbers-apart first (suc count) = (
  all-map (λ n is. above n is) (numbers (first + 1) count) (numbers-among (first + 1) count),
  numbers-apart (first + 1) count,
)
  where
    above : (n : ℕ) → IsAmong (first + 1) count n → first ≢ n
    above n is e = let low = is.low in omega arith

in-numbers : (first count n : ℕ) → IsAmong first count n → Contains (numbers first count) n
in-numbers first zero n is = let low = is.low in let high = is.high in absurd (omega arith)
in-numbers first (suc count) n is =
    elim (cases_eq first n) [
      | inl e ↦
          subst (λ m. Contains (numbers first (suc count)) m) e (here first (numbers (first + 1) count))
      | inr d ↦
          let low = is.low
          in let high = is.high
          in later first (numbers (first + 1) count) n
          (in-numbers (first + 1) count n (record { low = omega arith; high = omega arith }))
    ]

-- ---- the other nodes of a script

-- a node of the script, and not this one
pub record IsOther (script : Script) (p q : ℕ) : Type 0 where
  pub node : IsNode script q
  pub other : q ≢ p

-- the other nodes are apart
pub others-apart : (script : Script) (p : ℕ) → AreApart (others_of script p)
others-apart script p =
    apart-left (λ q. not (nat_eq q p)) (numbers 1 (node_count script)) (numbers-apart 1 (node_count script))

-- an item of the others is another node of the script
pub is-other : (script : Script) (p q : ℕ) → Contains (others_of script p) q → IsOther script p q
is-other script p q there =
    let passes = passes-filter (λ x. not (nat_eq x p)) (numbers 1 (node_count script)) q there
    in let among : IsAmong 1 (node_count script) q =
    at-one (IsAmong 1 (node_count script)) (others_of script p) q
    (all-left (IsAmong 1 (node_count script)) (λ x. not (nat_eq x p)) (numbers 1 (node_count script))
    (numbers-among 1 (node_count script)))
    there
    in let low = among.low
    in let high = among.high
    in record {
      node = record { low = low; high = omega arith };
      other = eqb-false q p (not-true (nat_eq q p) passes);
    }

-- another node of the script is one of the others
pub in-others : (script : Script) (p q : ℕ) → IsNode script q → q ≢ p → Contains (others_of script p) q
in-others script p q is d =
    let low = is.low
    in let high = is.high
    in in-filter (λ x. not (nat_eq x p)) (numbers 1 (node_count script)) q
    (in-numbers 1 (node_count script) q (record { low = low; high = omega arith }))
    (ap not (ne_eqb q p d))
