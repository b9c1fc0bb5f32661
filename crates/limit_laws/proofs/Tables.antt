-- What holds of each entry of a table by number.
use Rattle.std.proofs.Common.{◌≡◌, ℕ, [], ◌∷◌, Some, sym, subst, ◌∙◌, inl, inr}
use Rattle.std.specs.List.{AllByRecursion}
use Rattle.std.proofs.lemmas.Bool.{cases_eq, cases_order}
use Rattle.number_maps.specs.Maps.{Numbered, get, put, without}
use Rattle.number_maps.proofs.LookUps.{get-first, get-later, put-equal, put-greater, put-less}
use Rattle.kernel_laws.proofs.Plain.{from_some, not_some}
use Rattle.kernel_laws.proofs.Lists.{all-filtered}

-- what a table has at a number,
pub all-get : {V : Type 0} (P : ℕ × V → Type 0) (m : Numbered V) (k : ℕ) (v : V) → AllByRecursion P m
    → get m k ≡ Some v → P (k, v)
all-get P [] k v all is = not_some v is
all-get {V} P (e ∷ m) k v all is =
    elim (cases_eq k e.0) [
      | inl same ↦
          let value : e.1 ≡ v = from_some e.1 v (sym (get-first e m k same) ∙ is)
          in subst (λ (n : ℕ). P (n, v)) (sym same) (subst (λ (x : V). P (e.0, x)) value all.0)
      | inr other ↦ all-get P m k v all.1 (sym (get-later e m k other) ∙ is)
    ]

-- what is put there,
pub all-put : {V : Type 0} (P : ℕ × V → Type 0) (m : Numbered V) (k : ℕ) (v : V) → P (k, v) → AllByRecursion P m
    → AllByRecursion P (put m k v)
all-put P [] k v own all = (own, tt)
all-put {V} P (e ∷ m) k v own all =
    elim (cases_order k e.0) [
      | inl same ↦
          subst (AllByRecursion P) (sym (put-equal e m k v same))
          (subst (λ (n : ℕ). P (n, v)) same own, all.1)
      | inr c ↦
          elim c [
            | inl l ↦ subst (AllByRecursion P) (sym (put-less e m k v l)) (own, all)
            | inr g ↦ subst (AllByRecursion P) (sym (put-greater e m k v g)) (all.0, all-put P m k v own all.1)
          ]
    ]

-- and what is taken away.
pub all-without : {V : Type 0} (P : ℕ × V → Type 0) (m : Numbered V) (k : ℕ) → AllByRecursion P m
    → AllByRecursion P (without m k)
all-without P m k all = all-filtered P _ m all
