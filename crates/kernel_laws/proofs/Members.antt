-- Members of lists after a filter or a push; children that are listed.
use Rattle.std.proofs.Common.{◌≡◌, ◌≢◌, ℕ, zero, suc, ◌<◌, Bool, true, false, not, List, [], ◌∷◌, ◌++◌, length, get_or, Option, Some, None, refl, ap, sym, subst, ◌∙◌, inl, inr, ◌⊎◌, arith, nat_eq}
use Rattle.std.specs.Prelude.{Contains, if◌then◌else◌}
use Rattle.std.specs.List.{filter, list_any}
use Rattle.std.proofs.lemmas.List.Elements.{Contains-append_left, Contains-push, Contains-push_cases, All-contains, All-filter, All-contains_itself, filter_passes}
use Rattle.std.proofs.lemmas.Bool.{cases_Bool, or_cases, or_right, or_left, eqb-true, eq-eqb, not-true, not_from_false, ne_eqb}
use Rattle.pico_base.specs.declared.reply.Ending.{Ending}
use Rattle.kernel_model.specs.Row.{Family, lists, with_child, others, family_after_end, first_ended_child, matches, without_ended, wait, Found, wait_result, EndedChild, ended_child}
use Rattle.kernel_laws.proofs.Plain.{from_some, not_some, not_true}

-- a list has its first element
pub contains-first : {X : Type 0} (x : X) (xs : List X) → Contains (x ∷ xs) x
contains-first x xs = (zero, omega arith, refl)

-- and those of its rest
pub contains-later : {X : Type 0} (x : X) (xs : List X) (y : X) → Contains xs y → Contains (x ∷ xs) y
contains-later x xs y h = let l : h.0 < length xs = h.1 in (suc h.0, omega arith, h.2)

contains-at : {X : Type 0} (x : X) (xs : List X) (y : X) (k : ℕ) → k < length (x ∷ xs) → get_or (x ∷ xs) k y ≡ y
    → (x ≡ y) ⊎ Contains xs y
contains-at x xs y zero l e = inl e
contains-at x xs y (suc k) l e = let m : k < length xs = omega arith in inr (k, m, e)

-- and no others
pub contains-cases : {X : Type 0} (x : X) (xs : List X) (y : X) → Contains (x ∷ xs) y → (x ≡ y) ⊎ Contains xs y
contains-cases x xs y h = contains-at x xs y h.0 h.1 h.2

-- an empty list has nothing
pub contains-none : {X : Type 0} (y : X) → Contains [] y → ⊥
contains-none y h = let l : h.0 < 0 = h.1 in absurd (omega arith)

-- what a filtered list has, the whole list has, and it passes the test
pub contains-filtered : {X : Type 0} (p : X → Bool) (xs : List X) (x : X) → Contains (filter p xs) x → Contains xs x
    × (p x ≡ true)
contains-filtered p xs x h = (
  All-contains (Contains xs) (filter p xs) x (All-filter p (Contains xs) xs (All-contains_itself xs)) h,
  All-contains (λ y. p y ≡ true) (filter p xs) x (filter_passes p xs) h,
)

-- what the whole list has and passes the test, the filtered list has
pub contains-filter : {X : Type 0} (p : X → Bool) (xs : List X) (x : X) → Contains xs x → p x ≡ true
    → Contains (filter p xs) x
contains-filter p [] x h t = absurd (contains-none x h)
contains-filter {X} p (y ∷ ys) x h t =
    let P : List X → Type 0 = λ zs. Contains zs x
    in elim (cases_Bool (p y)) [
      | inl keep ↦
          let e : filter p (y ∷ ys) ≡ y ∷ filter p ys = rw keep refl
          in elim (contains-cases y ys x h) [
            | inl same ↦ let Q : X → Type 0 =
                λ z. Contains (filter p (y ∷ ys)) z in subst Q same (let R : List X → Type 0 =
                λ zs. Contains zs y in subst R (sym e) (contains-first y (filter p ys)))
            | inr later ↦ subst P (sym e) (contains-later y (filter p ys) x (contains-filter p ys x later t))
          ]
      | inr drop ↦
          let e : filter p (y ∷ ys) ≡ filter p ys = rw drop refl
          in elim (contains-cases y ys x h) [
            | inl same ↦ absurd (not_true {B = ⊥} (sym drop ∙ (ap p same ∙ t)))
            | inr later ↦ subst P (sym e) (contains-filter p ys x later t)
          ]
    ]

-- one of a list of numbers
any-push : (n : ℕ) (ns : List ℕ) (m : ℕ) → list_any (nat_eq m) (ns ++ n ∷ []) ≡ true → (list_any (nat_eq m) ns ≡ true)
    ⊎ (m ≡ n)
any-push n [] m h =
    elim (or_cases (nat_eq m n) false h) [ inl t ↦ inr (eqb-true m n t) | inr f ↦ absurd (not_true {B = ⊥} f) ]
any-push n (x ∷ ns) m h =
    elim (or_cases (nat_eq m x) (list_any (nat_eq m) (ns ++ n ∷ [])) h) [
      | inl t ↦ inl (or_left (nat_eq m x) (list_any (nat_eq m) ns) t)
      | inr r ↦
          elim (any-push n ns m r) [
            | inl old ↦ inl (or_right (nat_eq m x) (list_any (nat_eq m) ns) old)
            | inr new ↦ inr new
          ]
    ]

any-cons : (p : ℕ → Bool) (x : ℕ) (xs : List ℕ) → list_any p (x ∷ xs) ≡ true → (p x ≡ true) ⊎ (list_any p xs ≡ true)
any-cons p x xs h = or_cases (p x) (list_any p xs) h

any-others : (n : ℕ) (ns : List ℕ) (m : ℕ) → list_any (nat_eq m) (others n ns) ≡ true → (list_any (nat_eq m) ns ≡ true)
    × (m ≢ n)
any-others n [] m h = not_true h
any-others n (x ∷ ns) m h =
    let p : ℕ → Bool = λ c. not (nat_eq n c)
    in elim (cases_Bool (nat_eq n x)) [
      | inl t ↦
          let e : others n (x ∷ ns) ≡ others n ns = rw t refl
          in let i = any-others n ns m (ap (λ zs. list_any (nat_eq m) zs) (sym e) ∙ h)
          in (or_right (nat_eq m x) (list_any (nat_eq m) ns) i.0, i.1)
      | inr f ↦
          let e : others n (x ∷ ns) ≡ x ∷ others n ns = rw f refl
          in elim (any-cons (nat_eq m) x (others n ns) (ap (λ zs. list_any (nat_eq m) zs) (sym e) ∙ h)) [
            | inl first ↦ (
              or_left (nat_eq m x) (list_any (nat_eq m) ns) first,
              λ same. not_true {B = ⊥} (sym f ∙ eq-eqb n x (sym same ∙ eqb-true m x first)),
            )
            | inr later ↦ let i = any-others n ns m later in (or_right (nat_eq m x) (list_any (nat_eq m) ns) i.0, i.1)
          ]
    ]

-- children after a fork and after an end
pub lists-child : (f : Family) (n c : ℕ) → lists (with_child f n) c ≡ true → (lists f c ≡ true) ⊎ (c ≡ n)
lists-child f n c h = any-push n f.living c h

-- a family after a child's end lists the others
pub lists-end : (f : Family) (n : ℕ) (e : Ending) (ignored : Bool) (c : ℕ)
    → lists (family_after_end f n e ignored) c ≡ true → (lists f c ≡ true) × (c ≢ n)
lists-end f n e ignored c h = any-others n f.living c h

-- an ended child was there before, or is the one that ended and is kept
pub ended-end : (f : Family) (n : ℕ) (e : Ending) (ignored : Bool) (c : ℕ) (d : Ending)
    → Contains (family_after_end f n e ignored).ended (ended_child c d)
    → Contains f.ended (ended_child c d) ⊎ ((n ≡ c) × (e ≡ d) × (ignored ≡ false))
ended-end f n e true c d h = inl h
ended-end f n e false c d h =
    elim (Contains-push_cases f.ended (ended_child n e) (ended_child c d) h) [
      | inl old ↦ inl old
      | inr new ↦ inr (ap (λ (x : EndedChild). x.pid) new, ap (λ (x : EndedChild). x.ending) new, refl)
    ]

-- ended children stay when another ends
pub ended-stays : (f : Family) (n : ℕ) (e : Ending) (ignored : Bool) (x : EndedChild) → Contains f.ended x
    → Contains (family_after_end f n e ignored).ended x
ended-stays f n e true x h = h
ended-stays f n e false x h = Contains-append_left f.ended (ended_child n e ∷ []) x h

-- a child whose end is kept is among the ended
pub ended-new : (f : Family) (n : ℕ) (e : Ending) → Contains (family_after_end f n e false).ended (ended_child n e)
ended-new f n e = Contains-push f.ended (ended_child n e)

-- ended children after waitpid
pub without-back : (f : Family) (n c : ℕ) (e : Ending) → Contains (without_ended n f).ended (ended_child c e)
    → Contains f.ended (ended_child c e) × (c ≢ n)
without-back f n c e h =
    let b = contains-filtered (λ (x : EndedChild). not (nat_eq n x.pid)) f.ended (ended_child c e) h
    in (b.0, λ same. not_true {B = ⊥} (sym (not-true (nat_eq n c) b.1) ∙ eq-eqb n c (sym same)))

-- other ended children stay when one is waited for
pub without-on : (f : Family) (n c : ℕ) (e : Ending) → Contains f.ended (ended_child c e) → c ≢ n
    → Contains (without_ended n f).ended (ended_child c e)
without-on f n c e h ne =
    contains-filter (λ (x : EndedChild). not (nat_eq n x.pid)) f.ended (ended_child c e) h
    (not_from_false (nat_eq n c) (ne_eqb n c (λ same. ne (sym same))))

first-is : (which : Option ℕ) (es : List EndedChild) (e x : EndedChild)
    → ((y : EndedChild) → first_ended_child which es ≡ Some y → Contains es y)
    → (b : Bool) → (if b then Some e else first_ended_child which es) ≡ Some x → Contains (e ∷ es) x
first-is which es e x h true g =
    let same : e ≡ x = from_some e x g in let P : EndedChild → Type 0 =
    λ y. Contains (e ∷ es) y in subst P same (contains-first e es)
first-is which es e x h false g = contains-later e es x (h x g)

first-contained : (which : Option ℕ) (es : List EndedChild) (x : EndedChild) → first_ended_child which es ≡ Some x
    → Contains es x
first-contained which [] x h = not_some x h
first-contained which (e ∷ es) x h = first-is which es e x (first-contained which es) (matches which e.pid) h

pair-is : (e : EndedChild) (child : ℕ) (ending : Ending) → e.pid ≡ child → e.ending ≡ ending
    → (let q : EndedChild = ended_child child ending in e ≡ q)
pair-is e child ending a b =
    let P : ℕ → Type 0 = λ c. let q : EndedChild = ended_child c ending in e ≡ q
    in let Q : Ending → Type 0 = λ d. let q : EndedChild = ended_child e.pid d in e ≡ q
    in subst P a (subst Q b refl)

found-is : (o : Option EndedChild) (living : Bool) (child : ℕ) (ending : Ending)
    → wait_result o living ≡ Found child ending → o ≡ Some (ended_child child ending)
found-is None true child ending h = cc
found-is None false child ending h = cc
found-is (Some e) living child ending h =
    let a : e.pid ≡ child = cc in let b : e.ending ≡ ending = cc in ap Some (pair-is e child ending a b)

-- a child that `waitpid` finds is among the ended
pub found-contained : (f : Family) (which : Option ℕ) (child : ℕ) (ending : Ending) → wait f which ≡ Found child ending
    → Contains f.ended (ended_child child ending)
found-contained f which child ending h =
    first-contained which f.ended (ended_child child ending)
    (found-is (first_ended_child which f.ended) (list_any (matches which) f.living) child ending h)
