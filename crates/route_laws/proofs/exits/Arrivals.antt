-- The leader's directory once the names of a parcel are at a node: nothing is held for them any more, and what was held
-- is in the leader's hand.
use Rattle.std.proofs.Common.{◌≡◌, ℕ, Bool, true, false, ◌||◌, if◌then◌else◌, List, [], ◌∷◌, ◌++◌, map, filter, flat_map, Option, Some, is_some, is_none, not, Contains, refl, ap, sym, subst, ◌∙◌, inl, inr, append-nil}
use Rattle.std.specs.List.{AllByRecursion, list_any}
use Rattle.std.proofs.lemmas.List.Elements.{filter-append, Contains-append_cases}
use Rattle.pico_base.specs.declared.numbers.Name.{Name}
use Rattle.pico_base.specs.declared.numbers.Name.TheVariants.{Proc}
use Rattle.rpc_frame.specs.declared.deed.PackedDeed.{PackedDeed}
use Rattle.rpc_frame.specs.declared.deed.Parcel.{Parcel}
use Rattle.number_maps.specs.Maps.{Numbered}
use Rattle.number_maps.specs.Rising.{IsRising}
use Rattle.number_maps.proofs.Rising.{above-first, rising-rest, get-above}
use Rattle.kernel_laws.proofs.Members.{contains-cases, contains-none}
use Rattle.node_model.specs.declared.held.Held.{Held}
use Rattle.node_model.specs.Kinds.{is_same_name}
use Rattle.node_model.specs.Bodies.{Body}
use Rattle.node_model.specs.Directory.{Directory, Place, At, place_of, items_of, held_for, has_deed_of, is_known, arrive}
use Rattle.node_model.specs.Parcels.{pack_all}
use Rattle.world_model.specs.Ends.{names_in, held_for_all, arrive_all}
use Rattle.world_laws.specs.Names.{OneIf, OnlyOne}
use Rattle.world_laws.specs.Callers.{only_if}
use Rattle.world_laws.specs.Invariant.{IsLeading}
use Rattle.world_laws.proofs.Named.{name-cases, same-name, other-name, same-name-is}
use Rattle.rule_laws.proofs.Places.{place-with-same, place-with-other}
use Rattle.route_laws.proofs.hand.Holdings.{leading-with}
use Rattle.rule_laws.proofs.ends.Given.{packed-has}

-- ---- the names of a parcel

-- the name is one of these
abbrev pub is_one_of : Name → List Name → Bool
is_one_of name names = list_any (is_same_name name) names

any-mapped : {A B : Type 0} (test : B → Bool) (f : A → B) (xs : List A)
    → list_any test (map f xs) ≡ list_any (λ x. test (f x)) xs
any-mapped test f [] = refl
any-mapped test f (x ∷ xs) = ap (λ t. test (f x) || t) (any-mapped test f xs)

-- a parcel has the deeds of its names
pub has-is-one : (name : Name) (parcel : Parcel) → is_one_of name (names_in parcel) ≡ has_deed_of name parcel
has-is-one name parcel = any-mapped (is_same_name name) (λ (deed : PackedDeed). deed.name) parcel.deeds

-- each name is there once
abbrev pub AreApart : List Name → Type 0
AreApart [] = Unit {0}
AreApart (name ∷ names) = (is_one_of name names ≡ false) × AreApart names

packed-apart : (m : Numbered Body) → IsRising m → AreApart (map (λ (deed : PackedDeed). deed.name) (pack_all Proc m))
packed-apart [] rises = tt
packed-apart (e ∷ m) rises = (
  any-mapped (is_same_name (Proc e.0)) (λ (deed : PackedDeed). deed.name) (pack_all Proc m)
      ∙ packed-has e.0 m ∙ ap is_some (get-above e.0 m (above-first e m rises)),
  packed-apart m (rising-rest e m rises),
)

-- the names of a parcel, whose deeds stand by rising number
pub names-apart : (parcel : Parcel) (bodies : Numbered Body) → parcel.deeds ≡ pack_all Proc bodies → IsRising bodies
    → AreApart (names_in parcel)
names-apart parcel bodies packed rises =
    subst (λ ds. AreApart (map (λ (deed : PackedDeed). deed.name) ds)) (sym packed) (packed-apart bodies rises)

-- ---- the directory

-- these names are at the node now, and all else is as it was
pub record Arrives (d d' : Directory) (names : List Name) (node : ℕ) : Type 0 where
  pub place_is : (name : Name) → place_of d' name ≡ (if is_one_of name names then Some (At node) else place_of d name)
  pub partings_are : d'.partings ≡ d.partings
  pub ranges_are : d'.ranges ≡ d.ranges
  pub leads : IsLeading d'

-- whatever the test says
pub either-way : {A : Type 0} (t : Bool) (x : A) → (if t then x else x) ≡ x
either-way true x = refl
either-way false x = refl

place-arrived : (names : List Name) (d : Directory) (node : ℕ) (name : Name)
    → place_of (arrive_all d names node) name ≡ (if is_one_of name names then Some (At node) else place_of d name)
place-arrived [] d node name = refl
place-arrived (m ∷ names) d node name =
    place-arrived names (arrive d m node) node name
    ∙ elim (name-cases name m) [
      | inl e ↦
          ap (λ o. if is_one_of name names then Some (At node) else o)
          (ap (place_of (arrive d m node)) e ∙ place-with-same d m (At node))
          ∙ either-way (is_one_of name names) (Some (At node))
          ∙ ap (λ t. if t || is_one_of name names then Some (At node) else place_of d name)
          (sym (same-name name m e))
      | inr u ↦
          ap (λ o. if is_one_of name names then Some (At node) else o) (place-with-other d m (At node) name u)
          ∙ ap (λ t. if t || is_one_of name names then Some (At node) else place_of d name)
          (sym (other-name name m u))
    ]

leads-arrived : (names : List Name) (d : Directory) (node : ℕ) → IsLeading d → IsLeading (arrive_all d names node)
leads-arrived [] d node leads = leads
leads-arrived (m ∷ names) d node leads =
    leads-arrived names (arrive d m node) node (leading-with d m (At node) leads)

partings-arrived : (names : List Name) (d : Directory) (node : ℕ)
    → (arrive_all d names node).partings ≡ d.partings
partings-arrived [] d node = refl
partings-arrived (m ∷ names) d node = partings-arrived names (arrive d m node) node

ranges-arrived : (names : List Name) (d : Directory) (node : ℕ) → (arrive_all d names node).ranges ≡ d.ranges
ranges-arrived [] d node = refl
ranges-arrived (m ∷ names) d node = ranges-arrived names (arrive d m node) node

-- the directory says so once they have come
pub all-arrive : (d : Directory) (names : List Name) (node : ℕ) → IsLeading d
    → Arrives d (arrive_all d names node) names node
all-arrive d names node leads =
    record {
      place_is = place-arrived names d node;
      partings_are = partings-arrived names d node;
      ranges_are = ranges-arrived names d node;
      leads = leads-arrived names d node leads;
    }

module _ (d d' : Directory) (names : List Name) (node : ℕ) (a : Arrives d d' names node) where
  items-by : (t : Bool) (o : Option Place)
      → items_of (if t then Some (At node) else o) ≡ (if t then [] else items_of o)
  items-by true o = refl
  items-by false o = refl

  -- nothing is held for them any more
  pub held-arrived : (name : Name) → held_for d' name ≡ (if is_one_of name names then [] else held_for d name)
  held-arrived name = ap items_of (a.place_is name) ∙ items-by (is_one_of name names) (place_of d name)

  -- of what is still held a test keeps the same
  pub held-kept : (test : Held → Bool) (name : Name)
      → filter test (held_for d' name)
      ≡ (if is_one_of name names then [] else filter test (held_for d name))
  held-kept test name = ap (filter test) (held-arrived name) ∙ by-test (is_one_of name names)
    where
      by-test : (t : Bool)
          → filter test (if t then [] else held_for d name) ≡ (if t then [] else filter test (held_for d name))
      by-test true = refl
      by-test false = refl

  -- what is known is known still
  pub arrived-known : (name : Name) → is_known d name ≡ true → is_known d' name ≡ true
  arrived-known name known = ap (λ o. not (is_none o)) (a.place_is name) ∙ by-test (is_one_of name names)
    where
      by-test : (t : Bool) → not (is_none (if t then Some (At node) else place_of d name)) ≡ true
      by-test true = refl
      by-test false = known

  -- what is held still was held
  pub still-there : (name : Name) (item : Held) → Contains (held_for d' name) item → Contains (held_for d name) item
  still-there name item there =
      by-test (is_one_of name names) (subst (λ is. Contains is item) (held-arrived name) there)
    where
      by-test : (t : Bool) → Contains (if t then [] else held_for d name) item → Contains (held_for d name) item
      by-test true h = absurd (contains-none item h)
      by-test false h = h

-- ---- what was held

-- what a test keeps of all of it is what it keeps for each name
pub kept-of-all : (test : Held → Bool) (d : Directory) (names : List Name)
    → filter test (held_for_all d names) ≡ flat_map (λ name. filter test (held_for d name)) names
kept-of-all test d [] = refl
kept-of-all test d (m ∷ names) =
    filter-append test (held_for d m) (held_for_all d names)
    ∙ ap (λ is. filter test (held_for d m) ++ is) (kept-of-all test d names)

-- each item was held for one of the names
pub held-for-one : (d : Directory) (names : List Name) (item : Held) → Contains (held_for_all d names) item
    → (name : Name) × Contains (held_for d name) item
held-for-one d [] item there = absurd (contains-none item there)
held-for-one d (m ∷ names) item there =
    elim (Contains-append_cases (held_for d m) (held_for_all d names) item there) [
      | inl first ↦ (m, first)
      | inr later ↦ held-for-one d names item later
    ]

-- nothing is made of any name
pub none-of-all : {A : Type 0} (f : Name → List A) (names : List Name) → ((name : Name) → f name ≡ [])
    → flat_map f names ≡ []
none-of-all f [] none = refl
none-of-all f (m ∷ names) none = ap (λ xs. xs ++ flat_map f names) (none m) ∙ none-of-all f names none

one-with-none : {A : Type 0} (t : Bool) (P : A → Type 0) (xs ys : List A) → ys ≡ [] → OneIf t P xs
    → OneIf t P (xs ++ ys)
one-with-none t P xs ys none one = subst (λ zs. OneIf t P zs) (sym (ap (λ zs. xs ++ zs) none ∙ append-nil xs)) one

-- Where one is made of one name alone, it is made of the list where that has the name.
pub one-of-all : {A : Type 0} (P : A → Type 0) (f : Name → List A) (name : Name) (names : List Name) → AreApart names
    → ((m : Name) → OneIf (is_same_name name m) P (f m)) → OneIf (is_one_of name names) P (flat_map f names)
one-of-all P f name [] apart one = refl
one-of-all P f name (m ∷ names) apart one =
    by-test (is_same_name name m) refl (one m) (one-of-all P f name names apart.1 one)
  where
    by-test : (t : Bool) → is_same_name name m ≡ t → OneIf t P (f m)
        → OneIf (is_one_of name names) P (flat_map f names)
        → OneIf (t || is_one_of name names) P (flat_map f (m ∷ names))
    by-test true e first rest =
        one-with-none true P (f m) (flat_map f names)
        (subst (λ t. OneIf t P (flat_map f names))
        (ap (λ n. is_one_of n names) (same-name-is name m e) ∙ apart.0) rest)
        first
    by-test false e first rest =
        subst (λ xs. OneIf (is_one_of name names) P (xs ++ flat_map f names)) (sym first) rest

-- one of a kind is just one
pub just-one-if : {A : Type 0} (t : Bool) (x : A) (xs : List A) → xs ≡ only_if t x → OneIf t (λ y. y ≡ x) xs
just-one-if true x xs e = record { one = x; only = e; holds = refl }
just-one-if false x xs e = e

-- and back
pub just-one-is : {A : Type 0} (t : Bool) (x : A) (xs : List A) → OneIf t (λ y. y ≡ x) xs → xs ≡ only_if t x
just-one-is true x xs one =
    let o : OnlyOne (λ y. y ≡ x) xs = one
    in o.only ∙ ap (λ y. y ∷ []) o.holds
just-one-is false x xs none = none

-- what holds of all in a list holds of each
pub each-of-all : {A : Type 0} (P : A → Type 0) (xs : List A) (x : A) → AllByRecursion P xs → Contains xs x → P x
each-of-all P [] x all there = absurd (contains-none x there)
each-of-all P (y ∷ xs) x all there =
    elim (contains-cases y xs x there) [
      | inl first ↦ subst P first all.0
      | inr later ↦ each-of-all P xs x all.1 later
    ]
