-- What is put at two numbers.
use Rattle.std.proofs.Common.{◌≡◌, ◌∙◌, ℕ, ◌<◌, false, nat_eq, [], ◌∷◌, sym, ap, inl, inr, arith}
use Rattle.std.proofs.lemmas.Bool.{cases_order}
use Rattle.number_maps.specs.Maps.{Numbered, put}
use Rattle.number_maps.proofs.LookUps.{put-less, put-equal, put-greater}

below-put : {V : Type 0} (e : ℕ × V) (m : Numbered V) (k j : ℕ) (v w : V) → k < e.0 → k < j
    → put (put (e ∷ m) j w) k v ≡ (k, v) ∷ put (e ∷ m) j w
below-put {V} e m k j v w below lower =
    elim (cases_order j e.0) [
      | inl same ↦
          let is : put (e ∷ m) j w ≡ (e.0, w) ∷ m = put-equal e m j w same
          in ap (λ (r : Numbered V). put r k v) is ∙ put-less (e.0, w) m k v below
          ∙ ap (λ (r : Numbered V). (k, v) ∷ r) (sym is)
      | inr (inl less) ↦
          let is : put (e ∷ m) j w ≡ (j, w) ∷ e ∷ m = put-less e m j w less
          in ap (λ (r : Numbered V). put r k v) is ∙ put-less (j, w) (e ∷ m) k v lower
          ∙ ap (λ (r : Numbered V). (k, v) ∷ r) (sym is)
      | inr (inr more) ↦
          let is : put (e ∷ m) j w ≡ e ∷ put m j w = put-greater e m j w more
          in ap (λ (r : Numbered V). put r k v) is ∙ put-less e (put m j w) k v below
          ∙ ap (λ (r : Numbered V). (k, v) ∷ r) (sym is)
    ]

put-rising : {V : Type 0} (m : Numbered V) (k j : ℕ) (v w : V) → k < j
    → put (put m k v) j w ≡ put (put m j w) k v
put-rising [] k j v w lower = put-greater (k, v) [] j w lower ∙ sym (put-less (j, w) [] k v lower)
put-rising {V} (e ∷ m) k j v w lower =
    elim (cases_order k e.0) [
      | inl same ↦
          let above : e.0 < j = omega (arith, lower, same)
          in ap (λ (r : Numbered V). put r j w) (put-equal e m k v same) ∙ put-greater (e.0, v) m j w above
          ∙ sym (ap (λ (r : Numbered V). put r k v) (put-greater e m j w above) ∙ put-equal e (put m j w) k v same)
      | inr (inl less) ↦
          ap (λ (r : Numbered V). put r j w) (put-less e m k v less) ∙ put-greater (k, v) (e ∷ m) j w lower
          ∙ sym (below-put e m k j v w less lower)
      | inr (inr more) ↦
          let above : e.0 < j = omega (arith, lower, more)
          in ap (λ (r : Numbered V). put r j w) (put-greater e m k v more) ∙ put-greater e (put m k v) j w above
          ∙ ap (λ (r : Numbered V). e ∷ r) (put-rising m k j v w lower)
          ∙ sym (ap (λ (r : Numbered V). put r k v) (put-greater e m j w above) ∙ put-greater e (put m j w) k v more)
    ]

-- it doesn't matter which of two numbers is written first
pub put-apart : {V : Type 0} (m : Numbered V) (k j : ℕ) (v w : V) → nat_eq k j ≡ false
    → put (put m k v) j w ≡ put (put m j w) k v
put-apart m k j v w apart =
    elim (cases_order k j) [
      | inl same ↦ absurd (differ k j apart same)
      | inr (inl less) ↦ put-rising m k j v w less
      | inr (inr more) ↦ sym (put-rising m j k w v more)
    ]
  where
    differ : (a b : ℕ) → nat_eq a b ≡ false → a ≡ b → ⊥
    differ a b apart same = grind arith
