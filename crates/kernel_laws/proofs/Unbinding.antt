-- What is bound once a thing's key is unbound.
use Rattle.std.proofs.Common.{◌≡◌, ◌≢◌, ℕ, Bool, not, [], ◌∷◌, Some, ap, sym, ◌∙◌, inl, inr, nat_eq}
use Rattle.std.proofs.lemmas.Bool.{cases_eq, eq-eqb, ne_eqb, not_from_true, not_from_false}
use Rattle.number_maps.specs.Maps.{Numbered, get}
use Rattle.number_maps.proofs.LookUps.{get-first, get-later, filter-kept, filter-dropped}
use Rattle.number_maps.specs.Rising.{IsRising}
use Rattle.number_maps.proofs.Rising.{above-first, rising-rest, get-above}
use Rattle.kernel_model.specs.QueueCalls.{unbind}
use Rattle.kernel_laws.proofs.Plain.{from_some, not_some}

-- a key that is still bound was bound before, and not to the thing that is gone
pub get-unbound : (m : Numbered ℕ) (id key i : ℕ) → IsRising m → get (unbind m id) key ≡ Some i → (get m key ≡ Some i)
    × (i ≢ id)
get-unbound [] id key i r h = not_some i h
get-unbound (e ∷ m) id key i r h =
    let p : ℕ × ℕ → Bool = λ d. not (nat_eq d.1 id)
    in elim (cases_eq e.1 id) [
      | inl bound ↦
          let below = get-unbound m id key i (rising-rest e m r)
          (ap (λ s. get s key) (sym (filter-dropped p e m (not_from_true (nat_eq e.1 id) (eq-eqb e.1 id bound)))) ∙ h)
          in let ne : key ≢ e.0 =
          λ same. not_some i (sym (ap (λ q. get m q) same ∙ get-above e.0 m (above-first e m r)) ∙ below.0)
          in (get-later e m key ne ∙ below.0, below.1)
      | inr free ↦
          let kept : get (e ∷ unbind m id) key ≡ Some i =
          ap (λ s. get s key) (sym (filter-kept p e m (not_from_false (nat_eq e.1 id) (ne_eqb e.1 id free)))) ∙ h
          in elim (cases_eq key e.0) [
            | inl same ↦
                let is : e.1 ≡ i = from_some e.1 i (sym (get-first e (unbind m id) key same) ∙ kept)
                in (get-first e m key same ∙ ap Some is, λ gone. free (is ∙ gone))
            | inr ne ↦
                let below = get-unbound m id key i (rising-rest e m r) (sym (get-later e (unbind m id) key ne) ∙ kept)
                in (get-later e m key ne ∙ below.0, below.1)
          ]
    ]
