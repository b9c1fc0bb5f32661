-- A family that lists each child once, after a fork, an end and a waitpid.
use Rattle.std.proofs.Common.{◌≡◌, ℕ, Bool, true, false, not, List, [], ◌∷◌, ◌++◌, refl, ap, sym, subst, inl, inr, nat_eq, map}
use Rattle.std.specs.Prelude.{Contains}
use Rattle.std.specs.List.{IsDistinct, AllByRecursion, filter, list_any}
use Rattle.std.specs.Cmp.{nat_eq_equiv}
use Rattle.std.proofs.lemmas.Bool.{cases_Bool, or_cases, eqb-true, false_from_ne_true}
use Rattle.std.proofs.lemmas.Map.Keys.{IsDistinct-push, IsDistinct-head, IsDistinct-tail, IsDistinct-cons}
use Rattle.pico_base.specs.declared.reply.Ending.{Ending}
use Rattle.kernel_model.specs.Row.{Family, no_family, with_child, family_after_end, without_ended, lists, EndedChild, ended_child}
use Rattle.kernel_laws.specs.Once.{ListsOnce}
use Rattle.kernel_laws.proofs.Plain.{not_true}
use Rattle.kernel_laws.proofs.Lists.{all-filtered}
use Rattle.kernel_laws.proofs.Members.{contains-first, contains-later}

nothing-twice : {K : Type 0} (e : K → K → Bool) → IsDistinct e []
unfolding IsDistinct
nothing-twice e = tt

distinct-filtered : (p : ℕ → Bool) (xs : List ℕ) → IsDistinct nat_eq xs → IsDistinct nat_eq (filter p xs)
distinct-filtered p [] h = h
distinct-filtered p (x ∷ xs) h =
    let Q : List ℕ → Type 0 = λ ys. IsDistinct nat_eq ys
    in let i = distinct-filtered p xs (IsDistinct-tail nat_eq x xs h)
    in elim (cases_Bool (p x)) [
      | inl t ↦
          let e : filter p (x ∷ xs) ≡ x ∷ filter p xs = rw t refl
          in subst Q (sym e) (IsDistinct-cons nat_eq x (filter p xs)
          (all-filtered (λ y. nat_eq x y ≡ false) p xs (IsDistinct-head nat_eq x xs h)) i)
      | inr f ↦ let e : filter p (x ∷ xs) ≡ filter p xs = rw f refl in subst Q (sym e) i
    ]

-- the numbers of pairs
all-numbers : (P : ℕ → Type 0) (p : EndedChild → Bool) (es : List EndedChild) → AllByRecursion P (map (λ e. e.pid) es)
    → AllByRecursion P (map (λ e. e.pid) (filter p es))
all-numbers P p [] h = h
all-numbers P p (x ∷ xs) h =
    let Q : List EndedChild → Type 0 = λ ys. AllByRecursion P (map (λ e. e.pid) ys)
    in elim (cases_Bool (p x)) [
      | inl t ↦ let e : filter p (x ∷ xs) ≡ x ∷ filter p xs = rw t refl in subst Q (sym e) (h.0, all-numbers P p xs h.1)
      | inr f ↦ let e : filter p (x ∷ xs) ≡ filter p xs = rw f refl in subst Q (sym e) (all-numbers P p xs h.1)
    ]

distinct-numbers : (p : EndedChild → Bool) (es : List EndedChild) → IsDistinct nat_eq (map (λ e. e.pid) es)
    → IsDistinct nat_eq (map (λ e. e.pid) (filter p es))
distinct-numbers p [] h = h
distinct-numbers p (x ∷ xs) h =
    let Q : List EndedChild → Type 0 = λ ys. IsDistinct nat_eq (map (λ e. e.pid) ys)
    in let i = distinct-numbers p xs (IsDistinct-tail nat_eq x.pid (map (λ e. e.pid) xs) h)
    in elim (cases_Bool (p x)) [
      | inl t ↦
          let e : filter p (x ∷ xs) ≡ x ∷ filter p xs = rw t refl
          in subst Q (sym e)
          (IsDistinct-cons nat_eq x.pid (map (λ e. e.pid) (filter p xs))
          (all-numbers (λ y. nat_eq x.pid y ≡ false) p xs (IsDistinct-head nat_eq x.pid (map (λ e. e.pid) xs) h)) i)
      | inr f ↦ let e : filter p (x ∷ xs) ≡ filter p xs = rw f refl in subst Q (sym e) i
    ]

numbers-push : (es : List EndedChild) (n : ℕ) (e : Ending)
    → map (λ x. x.pid) (es ++ ended_child n e ∷ []) ≡ map (λ x. x.pid) es ++ n ∷ []
numbers-push [] n e = refl
numbers-push (x ∷ xs) n e = ap (λ ys. x.pid ∷ ys) (numbers-push xs n e)

among-numbers : (n : ℕ) (es : List EndedChild) → list_any (nat_eq n) (map (λ x. x.pid) es) ≡ true → (d : Ending)
    × Contains es (ended_child n d)
among-numbers n [] h = not_true h
among-numbers n (x ∷ xs) h =
    elim (or_cases (nat_eq n x.pid) (list_any (nat_eq n) (map (λ y. y.pid) xs)) h) [
      | inl t ↦ (
        x.ending,
        subst (λ (m : ℕ). Contains (x ∷ xs) (ended_child m x.ending)) (sym (eqb-true n x.pid t))
            (contains-first x xs),
      )
      | inr r ↦ let i = among-numbers n xs r in (i.0, contains-later x xs (ended_child n i.0) i.1)
    ]

-- no children are listed once
pub once-none : ListsOnce no_family
once-none = record { living = nothing-twice nat_eq; ended = nothing-twice nat_eq }

-- a new child is listed once
pub once-child : (f : Family) (n : ℕ) → ListsOnce f → lists f n ≡ false → ListsOnce (with_child f n)
once-child f n h new = record { living = IsDistinct-push nat_eq_equiv f.living n h.living new; ended = h.ended }

ended-once : (f : Family) (n : ℕ) (e : Ending) (ignored : Bool) → ListsOnce f
    → ((d : Ending) → Contains f.ended (ended_child n d) → ⊥)
    → IsDistinct nat_eq (map (λ x. x.pid) (family_after_end f n e ignored).ended)
ended-once f n e true h absent = h.ended
ended-once f n e false h absent =
    let new = false_from_ne_true (list_any (nat_eq n) (map (λ x. x.pid) f.ended)) (λ t. let w =
    among-numbers n f.ended t in absent w.0 w.1)
    in subst (λ (ys : List ℕ). IsDistinct nat_eq ys) (sym (numbers-push f.ended n e))
    (IsDistinct-push nat_eq_equiv (map (λ x. x.pid) f.ended) n h.ended new)

-- a child that ends is listed once
pub once-end : (f : Family) (n : ℕ) (e : Ending) (ignored : Bool) → ListsOnce f
    → ((d : Ending) → Contains f.ended (ended_child n d) → ⊥) → ListsOnce (family_after_end f n e ignored)
once-end f n e ignored h absent =
    record {
      living = distinct-filtered (λ c. not (nat_eq n c)) f.living h.living;
      ended =
          ended-once f n e ignored h absent;
    }

-- children that are left are listed once
pub once-without : (f : Family) (n : ℕ) → ListsOnce f → ListsOnce (without_ended n f)
once-without f n h = record { living = h.living; ended = distinct-numbers (λ e. not (nat_eq n e.pid)) f.ended h.ended }
