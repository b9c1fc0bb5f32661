-- A parcel that has come to the leader can be taken: it is read as what the kernel has of its processes, and each of
-- them is on its way and in no other parcel. Two things are taken here that the invariant doesn't say yet: bodies on
-- their way are read back, and the leader knows names at nodes alone.
use Rattle.std.proofs.Common.{◌≡◌, ◌⊎◌, ℕ, Bool, true, false, ◌&&◌, ◌||◌, cond, if◌then◌else◌, List, [], ◌∷◌, ◌++◌, map, filter, Some, None, is_some, option_map, option_and_then, Contains, refl, ap, sym, subst, ◌∙◌, inl, inr, arith}
use Rattle.std.specs.List.{AllByRecursion, list_any, list_all}
use Rattle.std.proofs.lemmas.Bool.{cases_eq, lt-ltb, false≢true}
use Rattle.std.proofs.lemmas.List.Elements.{Contains-append_cases, Contains-push_cases}
use Rattle.pico_base.specs.declared.numbers.Name.{Name}
use Rattle.pico_base.specs.declared.numbers.Name.TheVariants.{Proc}
use Rattle.rpc_frame.specs.declared.frame.Frame.{Frame}
use Rattle.rpc_frame.specs.declared.frame.Frame.TheVariants as frames
use Rattle.number_maps.specs.Maps.{Numbered, get}
use Rattle.number_maps.specs.Rising.{IsRising}
use Rattle.number_maps.proofs.LookUps.{get-first, get-later}
use Rattle.number_maps.proofs.Rising.{above-first, rising-rest, get-above}
use Rattle.node_model.specs.Kinds.{number_of, is_same_name}
use Rattle.node_model.specs.Bodies.{Body}
use Rattle.node_model.specs.Spelling.{pack, read_deed}
use Rattle.node_model.specs.Parcels.{pack_all, read_deeds, with_body, are_rising}
use Rattle.world_model.specs.Node.{Stage, Unborn, Living, Leaving, Left, Over}
use Rattle.world_model.specs.Census.{brings}
use Rattle.world_laws.specs.Places.{CallPlace}
use Rattle.world_laws.specs.Plays.{Hold, Has, Lacks, Done, PlayStep, Comes, Goes, AllGo, IsNeeded, play, steps_if, steps_of, plays, begin, is_has}
use Rattle.world_laws.proofs.Played.{play-none}

-- ---- lists

-- no element passes where each fails
pub any-none : {A : Type 0} (test : A → Bool) (xs : List A) → AllByRecursion (λ x. test x ≡ false) xs
    → list_any test xs ≡ false
any-none test [] all = refl
any-none test (x ∷ xs) all = ap (λ t. t || list_any test xs) all.0 ∙ any-none test xs all.1

-- the first is dropped, and so are the others
pub record DropsFirst {A : Type 0} (test : A → Bool) (x : A) (xs : List A) : Type 0 where
  pub first : test x ≡ false
  pub rest : filter test xs ≡ []

drops-by : {A : Type 0} (b : Bool) (x : A) (xs : List A) → cond b (x ∷ xs) xs ≡ [] → (b ≡ false) × (xs ≡ [])
drops-by true x xs h = absurd (not-empty h)
  where
    not-empty : x ∷ xs ≡ [] → ⊥
    not-empty e = cc
drops-by false x xs h = (refl, h)

-- where a filter keeps nothing
pub drops-first : {A : Type 0} (test : A → Bool) (x : A) (xs : List A) → filter test (x ∷ xs) ≡ []
    → DropsFirst test x xs
drops-first test x xs h =
    let both = drops-by (test x) x (filter test xs) h
    in record { first = both.0; rest = both.1 }

-- where a filter keeps nothing no element passes
pub none-kept : {A : Type 0} (test : A → Bool) (xs : List A) → filter test xs ≡ [] → list_any test xs ≡ false
none-kept test [] h = refl
none-kept test (x ∷ xs) h =
    let drops : DropsFirst test x xs = drops-first test x xs h
    in ap (λ t. t || list_any test xs) drops.first ∙ none-kept test xs drops.rest

-- nor does one of a narrower test
pub fewer-none : {A : Type 0} (few many : A → Bool) → ((x : A) → few x ≡ true → many x ≡ true) → (xs : List A)
    → filter many xs ≡ [] → filter few xs ≡ []
fewer-none few many less [] h = refl
fewer-none few many less (x ∷ xs) h =
    let drops : DropsFirst many x xs = drops-first many x xs h
    in ap (λ t. cond t (x ∷ filter few xs) (filter few xs)) (not-few (few x) refl drops.first)
    ∙ fewer-none few many less xs drops.rest
  where
    not-few : (t : Bool) → few x ≡ t → many x ≡ false → few x ≡ false
    not-few true e m = absurd (false≢true (sym m ∙ less x e))
    not-few false e m = e

-- ---- what is packed

first-or-later : (pid k : ℕ) (body v : Body) (m : Numbered Body)
    → Contains (pack (Proc pid) body ∷ pack_all Proc m) (pack (Proc k) v)
    → (pack (Proc pid) body ≡ pack (Proc k) v) ⊎ Contains (pack_all Proc m) (pack (Proc k) v)
first-or-later pid k body v m there =
    elim (Contains-append_cases (pack (Proc pid) body ∷ []) (pack_all Proc m) (pack (Proc k) v) there) [
      | inr later ↦ inr later
      | inl first ↦
          elim (Contains-push_cases [] (pack (Proc pid) body) (pack (Proc k) v) first) [
            | inl none ↦ absurd (omega (arith, none.1))
            | inr e ↦ inl e
          ]
    ]

number-same : (pid k : ℕ) (body v : Body) → pack (Proc pid) body ≡ pack (Proc k) v → pid ≡ k
number-same pid k body v e = ap (λ deed. number_of deed.name) e

-- what is in the pack has a number of the map
packed-gets : (k : ℕ) (v : Body) (m : Numbered Body) → Contains (pack_all Proc m) (pack (Proc k) v) → get m k ≡ None → ⊥
packed-gets k v [] there none = omega (arith, there.1)
packed-gets k v (e ∷ m) there none =
    elim (cases_eq k e.0) [
      | inl g ↦ false≢true (ap is_some (sym none ∙ get-first e m k g))
      | inr d ↦
          elim (first-or-later e.0 k e.1 v m there) [
            | inl same ↦ d (sym (number-same e.0 k e.1 v same))
            | inr later ↦ packed-gets k v m later (sym (get-later e m k d) ∙ none)
          ]
    ]

-- and is what the map has there, packed
pub packed-same : (k : ℕ) (u v : Body) (m : Numbered Body) → IsRising m → get m k ≡ Some u
    → Contains (pack_all Proc m) (pack (Proc k) v) → pack (Proc k) u ≡ pack (Proc k) v
packed-same k u v [] rises has there = absurd (omega (arith, there.1))
packed-same k u v (e ∷ m) rises has there =
    elim (cases_eq k e.0) [
      | inl g ↦
          elim (first-or-later e.0 k e.1 v m there) [
            | inl same ↦
                ap (pack (Proc k)) (some-same (sym has ∙ get-first e m k g)) ∙ ap (λ q. pack (Proc q) e.1) g ∙ same
            | inr later ↦
                absurd
                (packed-gets k v m later
                (subst (λ q. get m q ≡ None) (sym g) (get-above e.0 m (above-first e m rises))))
          ]
      | inr d ↦
          elim (first-or-later e.0 k e.1 v m there) [
            | inl same ↦ absurd (d (sym (number-same e.0 k e.1 v same)))
            | inr later ↦ packed-same k u v m (rising-rest e m rises) (sym (get-later e m k d) ∙ has) later
          ]
    ]
  where
    some-same : {A : Type 0} {x y : A} → Some x ≡ Some y → x ≡ y
    some-same e = cc

-- ---- what is read of it

-- the numbers of a map, each with what the kernel has of it
abbrev pub each_with : (ℕ → Body) → Numbered Body → Numbered Body
each_with f m = map (λ e. (e.0, f e.0)) m

-- packed bodies that are read so are read together
pub read-packed : (f : ℕ → Body) (m : Numbered Body)
    → AllByRecursion (λ e. read_deed (pack (Proc e.0) e.1) ≡ Some (f e.0)) m
    → read_deeds (pack_all Proc m) ≡ Some (each_with f m)
read-packed f [] all = refl
read-packed f (e ∷ m) all =
    ap (λ o. option_and_then (with_body (read_deeds (pack_all Proc m))) (option_map (λ body. (e.0, body)) o)) all.0
    ∙ ap (λ r. with_body r (e.0, f e.0)) (read-packed f m all.1)

-- what is read has each number of the map
pub each-gets : (f : ℕ → Body) (m : Numbered Body) (k : ℕ) (v : Body) → get m k ≡ Some v
    → get (each_with f m) k ≡ Some (f k)
each-gets f [] k v has = absurd (false≢true (ap is_some has))
each-gets f (e ∷ m) k v has =
    elim (cases_eq k e.0) [
      | inl g ↦ get-first (e.0, f e.0) (each_with f m) k g ∙ ap (λ q. Some (f q)) (sym g)
      | inr d ↦
          get-later (e.0, f e.0) (each_with f m) k d ∙ each-gets f m k v (sym (get-later e m k d) ∙ has)
    ]

-- and rises with it
pub each-rises : (f : ℕ → Body) (m : Numbered Body) → IsRising m → are_rising (each_with f m) ≡ true
each-rises f [] rises = refl
each-rises f (e ∷ []) rises = refl
each-rises f (e ∷ g ∷ m) rises =
    let above = above-first e (g ∷ m) rises
    in ap (λ t. t && are_rising (each_with f (g ∷ m))) (lt-ltb e.0 g.0 above.0)
    ∙ each-rises f (g ∷ m) (rising-rest e (g ∷ m) rises)

-- all of it passes where each number's does
pub each-passes : (f : ℕ → Body) (test : ℕ × Body → Bool) (m : Numbered Body)
    → AllByRecursion (λ e. test (e.0, f e.0) ≡ true) m → list_all test (each_with f m) ≡ true
each-passes f test [] all = refl
each-passes f test (e ∷ m) all =
    ap (λ t. t && list_all test (each_with f m)) all.0 ∙ each-passes f test m all.1

-- and the names of what is packed
pub names-pass : (test : Name → Bool) (m : Numbered Body) → AllByRecursion (λ e. test (Proc e.0) ≡ true) m
    → list_all test (map (λ deed. deed.name) (pack_all Proc m)) ≡ true
names-pass test [] all = refl
names-pass test (e ∷ m) all =
    ap (λ t. t && list_all test (map (λ deed. deed.name) (pack_all Proc m))) all.0 ∙ names-pass test m all.1

-- ---- plays without a deed

abbrev pub is_comes : PlayStep → Bool
is_comes Comes = true
is_comes Goes = false
is_comes AllGo = false
is_comes IsNeeded = false

none-is-not : {A : Type 0} (a : A) → None ≡ Some a → ⊥
none-is-not a h = false≢true (ap is_some h)

-- what begins without the deed, where none comes, ends without it
pub play-without : (hold last : Hold) (ss : List PlayStep) → AllByRecursion (λ s. is_comes s ≡ false) ss
    → is_has hold ≡ false → play hold ss ≡ Some last → is_has last ≡ false
play-without hold last [] all lacks h = ap is_has (sym (some-same h)) ∙ lacks
  where
    some-same : Some hold ≡ Some last → hold ≡ last
    some-same e = cc
play-without hold last (Comes ∷ ss) all lacks h = absurd (false≢true (sym all.0))
play-without Has last (Goes ∷ ss) all lacks h = absurd (false≢true (sym lacks))
play-without Lacks last (Goes ∷ ss) all lacks h = absurd (none-is-not last (sym (play-none ss) ∙ h))
play-without Done last (Goes ∷ ss) all lacks h = absurd (none-is-not last (sym (play-none ss) ∙ h))
play-without Has last (IsNeeded ∷ ss) all lacks h = absurd (false≢true (sym lacks))
play-without Lacks last (IsNeeded ∷ ss) all lacks h = absurd (none-is-not last (sym (play-none ss) ∙ h))
play-without Done last (IsNeeded ∷ ss) all lacks h = absurd (none-is-not last (sym (play-none ss) ∙ h))
play-without Has last (AllGo ∷ ss) all lacks h = absurd (false≢true (sym lacks))
play-without Lacks last (AllGo ∷ ss) all lacks h = play-without Done last ss all.1 refl h
play-without Done last (AllGo ∷ ss) all lacks h = play-without Done last ss all.1 refl h

none-comes-if : (t : Bool) (s : PlayStep) → is_comes s ≡ false → AllByRecursion (λ r. is_comes r ≡ false) (steps_if t s)
none-comes-if true s h = (h, tt)
none-comes-if false s h = tt

steps-without : (used : Bool) (call : ℕ → CallPlace) (name : Name) (frame : Frame) → brings name frame ≡ false
    → AllByRecursion (λ s. is_comes s ≡ false) (steps_of used call name frame)
steps-without used call name (frames.Grant deed) h =
    subst (λ t. AllByRecursion (λ s. is_comes s ≡ false) (steps_if t Comes)) (sym h) tt
steps-without used call name (frames.Checkpoint pid parent deed vars) h =
    subst (λ t. AllByRecursion (λ s. is_comes s ≡ false) (steps_if t Comes)) (sym h) tt
steps-without used call name (frames.ExitTo parcel) h =
    subst (λ t. AllByRecursion (λ s. is_comes s ≡ false) (if t then Comes ∷ [] else steps_if (is_same_name name
    (Proc parcel.parent)) IsNeeded))
    (sym h) (none-comes-if (is_same_name name (Proc parcel.parent)) IsNeeded refl)
steps-without used call name (frames.Recall other) h = none-comes-if _ Goes refl
steps-without used call name frames.RecallAll h = (refl, tt)
steps-without used call name (frames.Forward asked) h = none-comes-if _ IsNeeded refl
steps-without used call name (frames.Cancel asked) h = none-comes-if _ IsNeeded refl
steps-without used call name frame h = tt

-- what holds of all of both
pub both-all : {A : Type 0} (P : A → Type 0) (xs ys : List A) → AllByRecursion P xs → AllByRecursion P ys
    → AllByRecursion P (xs ++ ys)
both-all P [] ys a b = b
both-all P (x ∷ xs) ys a b = (a.0, both-all P xs ys a.1 b)

-- where no frame brings it none comes
pub plays-without : (used : Bool) (call : ℕ → CallPlace) (name : Name) (fs : List Frame) → filter (brings name) fs ≡ []
    → AllByRecursion (λ s. is_comes s ≡ false) (plays used call name fs)
plays-without used call name [] h = tt
plays-without used call name (f ∷ fs) h =
    let drops : DropsFirst (brings name) f fs = drops-first (brings name) f fs h
    in both-all (λ s. is_comes s ≡ false) (steps_of used call name f) (plays used call name fs)
    (steps-without used call name f drops.first) (plays-without used call name fs drops.rest)

-- a node without it begins without it
pub begin-without : (stage : Stage) → is_has (begin stage false false) ≡ false
begin-without Unborn = refl
begin-without Living = refl
begin-without Leaving = refl
begin-without Left = refl
begin-without Over = refl
