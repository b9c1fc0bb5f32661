-- What a further range makes of the numbers.
use Rattle.std.proofs.Common.{◌≡◌, ℕ, zero, suc, ◌+◌, ◌-◌, ◌*◌, ◌/◌, ◌<◌, ◌≤◌, ◌⊎◌, inl, inr, Bool, cond, List, [], ◌∷◌, ◌++◌, length, slice_get, Some, None, refl, sym, ap, subst, ◌∙◌, arith}
use Rattle.std.proofs.lemmas.Bool.{cases_eq, eq-eqb, ne_eqb}
use Rattle.std.proofs.lemmas.Option.{slice_get_past}
use Rattle.pico_base.specs.declared.numbers.Kind.{Kind}
use Rattle.pico_base.specs.declared.numbers.Kind.TheVariants as kinds
use Rattle.node_model.specs.Directory.{maker_in, range_size}
use Rattle.node_model.specs.Kinds.{PerKind, for_kind, with_kind}
use Rattle.lease_leader.specs.Apart.{IsNextRange}

at-end : (xs : List ℕ) (x i : ℕ) → i ≡ length xs → slice_get (xs ++ x ∷ []) i ≡ Some x
at-end [] x zero h = refl
at-end [] x (suc i) h = absurd (omega arith)
at-end (y ∷ xs) x zero h = absurd (omega arith)
at-end (y ∷ xs) x (suc i) h = at-end xs x i (omega arith)

elsewhere : (xs : List ℕ) (x i : ℕ) → (i ≡ length xs → ⊥) → slice_get (xs ++ x ∷ []) i ≡ slice_get xs i
elsewhere [] x zero h = absurd (h refl)
elsewhere [] x (suc i) h = refl
elsewhere (y ∷ xs) x zero h = refl
elsewhere (y ∷ xs) x (suc i) h = elsewhere xs x i (λ e. h (omega arith))

-- the place of the range that a number is in
in-range : (count number : ℕ) → count * 8 + 1 ≤ number → number < count * 8 + 1 + 8 → (number - 1) / 8 ≡ count
in-range count number ge lt = omega arith

out-of-range : (count number : ℕ) → (number ≡ 0 → ⊥) → (number < count * 8 + 1) ⊎ (count * 8 + 1 + 8 ≤ number)
    → (number - 1) / 8 ≡ count → ⊥
out-of-range count number pos (inl lt) is = omega arith
out-of-range count number pos (inr ge) is = omega arith

module _ (before : List ℕ) (node first : ℕ) (is : first ≡ length before * 8 + 1) where
  unfold_maker : (ranges : List ℕ) (number : ℕ) → (number ≡ 0 → ⊥)
      → maker_in ranges number ≡ slice_get ranges ((number - 1) / 8)
  unfold_maker ranges number pos =
      ap (λ (b : Bool). cond b None (slice_get ranges ((number - 1) / 8))) (ne_eqb number 0 pos)

  none_made : (ranges : List ℕ) (number : ℕ) → number ≡ 0 → maker_in ranges number ≡ None
  none_made ranges number none =
      ap (λ (b : Bool). cond b None (slice_get ranges ((number - 1) / 8))) (eq-eqb number 0 none)

  new-numbers : (number : ℕ) → first ≤ number → number < first + 8
      → (maker_in before number ≡ None) × (maker_in (before ++ node ∷ []) number ≡ Some node)
  new-numbers number ge lt =
      let pos : number ≡ 0 → ⊥ = λ e. omega arith in
      let place : (number - 1) / 8 ≡ length before = in-range (length before) number (omega arith) (omega arith) in (
        unfold_maker before number pos ∙ slice_get_past before ((number - 1) / 8) (omega arith),
        unfold_maker (before ++ node ∷ []) number pos ∙ at-end before node ((number - 1) / 8) place,
      )

  other-numbers : (number : ℕ) → (number < first) ⊎ (first + 8 ≤ number)
      → maker_in (before ++ node ∷ []) number ≡ maker_in before number
  other-numbers number out =
      elim (cases_eq number 0) [
        | inl none ↦ none_made (before ++ node ∷ []) number none ∙ sym (none_made before number none)
        | inr pos ↦
            unfold_maker (before ++ node ∷ []) number pos
            ∙ elsewhere before node ((number - 1) / 8) (out-of-range (length before) number pos
            (elim out [ inl lt ↦ inl (omega arith) | inr ge ↦ inr (omega arith) ]))
            ∙ sym (unfold_maker before number pos)
      ]

  -- a further range is the next one
  pub is_next_range : IsNextRange before (before ++ node ∷ []) first node
  is_next_range = record { new = new-numbers; others = other-numbers }

for_kind-with_kind : (ranges : PerKind (List ℕ)) (kind : Kind) (xs : List ℕ)
    → for_kind (with_kind ranges kind xs) kind ≡ xs
for_kind-with_kind ranges kinds.Proc xs = refl
for_kind-with_kind ranges kinds.Msg xs = refl
for_kind-with_kind ranges kinds.Sem xs = refl

-- the same of a kind's ranges among all
pub next-range : (ranges ranges' : PerKind (List ℕ)) (kind : Kind) (node : ℕ)
    → ranges' ≡ with_kind ranges kind (for_kind ranges kind ++ node ∷ [])
    → IsNextRange (for_kind ranges kind) (for_kind ranges' kind) (length (for_kind ranges kind) * range_size + 1) node
next-range ranges ranges' kind node is =
    let before = for_kind ranges kind in
    let after : for_kind ranges' kind ≡ before ++ node ∷ [] =
    ap (λ (r : PerKind (List ℕ)). for_kind r kind) is ∙ for_kind-with_kind ranges kind (before ++ node ∷ []) in
    subst (λ (xs : List ℕ). IsNextRange before xs (length before * range_size + 1) node) (sym after)
    (is_next_range before node (length before * range_size + 1) refl)
