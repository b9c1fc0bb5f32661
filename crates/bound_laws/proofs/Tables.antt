-- What holds of each value of a map holds of each once a value is put in, or taken out.
use Rattle.std.proofs.Common.{◌≡◌, ◌⊎◌, ℕ, Some, None, refl, ap, sym, subst, ◌∙◌, inl, inr}
use Rattle.std.proofs.lemmas.Bool.{cases_eq}
use Rattle.pico_base.specs.declared.numbers.Name.{Name}
use Rattle.pico_base.specs.declared.numbers.Name.TheVariants.{Proc, Msg, Sem}
use Rattle.number_maps.specs.Maps.{Numbered, get, put, without}
use Rattle.number_maps.proofs.LookUps.{get-put-same, get-put-other, get-without-other, get-without-same}
use Rattle.kernel_laws.proofs.Plain.{from_some, not_some}
use Rattle.node_model.specs.Kinds.{Named, get_named, without_named}

-- with a further value
pub put-thing : {V : Type 0} (P : V → Type 0) (m : Numbered V) (k : ℕ) (v : V)
    → ((n : ℕ) (x : V) → get m n ≡ Some x → P x) → P v → (n : ℕ) (x : V) → get (put m k v) n ≡ Some x → P x
put-thing P m k v each own n x is =
    elim (cases_eq n k) [
      | inl same ↦
          subst P (from_some v x (sym (get-put-same m k v) ∙ ap (get (put m k v)) (sym same) ∙ is)) own
      | inr other ↦ each n x (sym (get-put-other m k v n other) ∙ is)
    ]

-- what is left at a number is what was there, or nothing
pub get-without : {V : Type 0} (m : Numbered V) (k q : ℕ)
    → (get (without m k) q ≡ None) ⊎ (get (without m k) q ≡ get m q)
get-without m k q =
    elim (cases_eq q k) [
      | inl same ↦ inl (ap (get (without m k)) same ∙ get-without-same m k)
      | inr other ↦ inr (get-without-other m k q other)
    ]

-- without one
pub without-thing : {V : Type 0} (P : V → Type 0) (m : Numbered V) (k : ℕ)
    → ((n : ℕ) (x : V) → get m n ≡ Some x → P x) → (n : ℕ) (x : V) → get (without m k) n ≡ Some x → P x
without-thing P m k each n x is =
    elim (get-without m k n) [
      | inl none ↦ not_some x (sym none ∙ is)
      | inr same ↦ each n x (sym same ∙ is)
    ]

-- the same by names
pub get-without-named : {V : Type 0} (m : Named V) (name other : Name)
    → (get_named (without_named m name) other ≡ None) ⊎ (get_named (without_named m name) other ≡ get_named m other)
get-without-named m (Proc k) (Proc q) = get-without m.processes k q
get-without-named m (Msg k) (Msg q) = get-without m.queues k q
get-without-named m (Sem k) (Sem q) = get-without m.sets k q
get-without-named m (Proc k) (Msg q) = inr refl
get-without-named m (Proc k) (Sem q) = inr refl
get-without-named m (Msg k) (Proc q) = inr refl
get-without-named m (Msg k) (Sem q) = inr refl
get-without-named m (Sem k) (Proc q) = inr refl
get-without-named m (Sem k) (Msg q) = inr refl
