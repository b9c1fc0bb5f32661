-- Lists of which one item is written, and links of which one is.
use Rattle.std.proofs.Common.{◌≡◌, ◌≢◌, ℕ, ◌<◌, ◌≤◌, zero, suc, List, [], ◌∷◌, ◌++◌, length, set, get_or, Option, Some, None, option_map, nat_eq, if◌then◌else◌, refl, sym, ap, ◌∙◌, inl, inr, arith}
use Rattle.std.proofs.lemmas.Bool.{cases_eq, cases_order, eq-eqb, ne_eqb}
use Rattle.std.proofs.lemmas.List.{length-append, length-set, get_or-set_same, get_or-set_other}
use Rattle.std.proofs.lemmas.Option.{slice_get-get_or, slice_get_past, slice_get_cases}
use Rattle.std.specs.List.{slice_get}
use Rattle.index_links.specs.declared.places.Link.{Link}
use Rattle.index_links.specs.declared.places.Place.{Place}
use Rattle.index_links.specs.Chains.{Change, on, back_to, relinked, AreRelinked, IsPlaced, IsFree}

module _ {X : Type 0} where
  -- what a written place has
  pub get-set_same : (xs : List X) (k : ℕ) (y : X) → k < length xs → slice_get (set xs k y) k ≡ Some y
  get-set_same xs k y within =
      let long : k < length (set xs k y) = rw length-set within in
      slice_get-get_or (set xs k y) k y long ∙ ap Some (get_or-set_same xs k y y within)

  -- and what another has
  pub get-set_other : (xs : List X) (k i : ℕ) (y : X) → i ≢ k → slice_get (set xs k y) i ≡ slice_get xs i
  get-set_other xs k i y ne =
      elim ((slice_get_cases xs i).1) [
        | inl h ↦
            let x : X = h.0 in
            let within : i < length xs = h.1 in
            let long : i < length (set xs k y) = rw length-set within in
            slice_get-get_or (set xs k y) i x long ∙ ap Some (get_or-set_other xs k i y x ne ∙ h.3) ∙ sym h.2
        | inr h ↦
            let past : length xs ≤ i = h.0 in
            let long : length (set xs k y) ≤ i = rw length-set past in
            slice_get_past (set xs k y) i long ∙ sym h.1
      ]

  -- a change that changes nothing
  unchanged : (f : X → X) (o : Option X) → ((q : X) → f q ≡ q) → o ≡ option_map f o
  unchanged f None alone = refl
  unchanged f (Some q) alone = ap Some (sym (alone q))

  -- items of which one is changed
  pub changed_at : (f : ℕ → X → X) (xs : List X) (k : ℕ) (d y : X) → k < length xs → f k (get_or xs k d) ≡ y
      → ((i : ℕ) (q : X) → i ≢ k → f i q ≡ q) → (i : ℕ)
      → slice_get (set xs k y) i ≡ option_map (f i) (slice_get xs i)
  changed_at f xs k d y within new alone i =
      elim (cases_eq i k) [
        | inl same ↦
            rw same
            (get-set_same xs k y within
            ∙ sym (ap (option_map (f k)) (slice_get-get_or xs k d within) ∙ ap Some new))
        | inr ne ↦ get-set_other xs k i y ne ∙ unchanged (f i) (slice_get xs i) (λ q. alone i q ne)
      ]

  -- no item is at the number of no place
  pub changed_nowhere : (f : ℕ → X → X) (xs : List X) (k : ℕ) → length xs ≤ k
      → ((i : ℕ) (q : X) → i ≢ k → f i q ≡ q) → (i : ℕ) → slice_get xs i ≡ option_map (f i) (slice_get xs i)
  changed_nowhere f xs k past alone i =
      elim ((slice_get_cases xs i).1) [
        | inl h ↦
            let within : i < length xs = h.1 in
            let ne : i ≢ k = omega arith in
            unchanged (f i) (slice_get xs i) (λ q. alone i q ne)
        | inr h ↦ h.1 ∙ sym (ap (option_map (f i)) h.1)
      ]

-- ---- one link

-- a link that leads on
pub on_same : (at next : ℕ) (l : Link) → on at next at l ≡ record { next = next; back = l.back }
on_same at next l = rw (eq-eqb at at refl) refl

-- and each other one
pub on_other : (at next i : ℕ) (l : Link) → i ≢ at → on at next i l ≡ l
on_other at next i l ne = rw (ne_eqb i at ne) refl

-- a link that leads back
pub back_same : (at back : ℕ) (l : Link) → back_to at back at l ≡ record { next = l.next; back = back }
back_same at back l = rw (eq-eqb at at refl) refl

-- and each other one
pub back_other : (at back i : ℕ) (l : Link) → i ≢ at → back_to at back i l ≡ l
back_other at back i l ne = rw (ne_eqb i at ne) refl

-- ---- places

module _ {V : Type 0} where
  relinked_once : (f g h k : Change) (i : ℕ) (o : Option (Place V))
      → option_map (relinked h k i) (option_map (relinked f g i) o)
      ≡ option_map (relinked {V = V} (λ i l. h i (f i l)) (λ i l. k i (g i l)) i) o
  relinked_once f g h k i None = refl
  relinked_once f g h k i (Some q) = refl

  -- two changes of links after another
  pub relinked_twice : (f g h k : Change) (one two three : List (Place V)) → AreRelinked f g one two
      → AreRelinked h k two three → AreRelinked (λ i l. h i (f i l)) (λ i l. k i (g i l)) one three
  relinked_twice f g h k one two three first second = record {
    each = λ i.
        second.each i ∙ (ap (option_map (relinked h k i)) (first.each i) ∙ relinked_once f g h k i (slice_get one i));
  }

  -- a place written
  pub placed_at : (places : List (Place V)) (at : ℕ) (p : Place V) → at < length places
      → IsPlaced at p places (set places at p)
  placed_at places at p within = record {
    each = λ i.
        elim (cases_eq i at) [
          | inl same ↦ rw (same, eq-eqb at at refl) (get-set_same places at p within)
          | inr ne ↦ rw (ne_eqb i at ne) (get-set_other places at i p ne)
        ];
  }

  -- what stands before the end stays there
  get-append_left : (xs ys : List (Place V)) (i : ℕ) → i < length xs → slice_get (xs ++ ys) i ≡ slice_get xs i
  get-append_left [] ys i within = absurd (omega arith)
  get-append_left (x ∷ xs) ys zero within = refl
  get-append_left (x ∷ xs) ys (suc i) within = get-append_left xs ys i (omega arith)

  get-append_seam : (xs : List (Place V)) (p : Place V) → slice_get (xs ++ p ∷ []) (length xs) ≡ Some p
  get-append_seam [] p = refl
  get-append_seam (x ∷ xs) p = get-append_seam xs p

  behind_each : (places : List (Place V)) (p : Place V) (i : ℕ)
      → slice_get (places ++ p ∷ []) i ≡ (if nat_eq i (length places) then Some p else slice_get places i)
  behind_each places p i =
      elim (cases_order i (length places)) [
        | inl same ↦ rw (same, eq-eqb (length places) (length places) refl) (get-append_seam places p)
        | inr c ↦
            elim c [
              | inl less ↦
                  rw (ne_eqb i (length places) (omega arith)) (get-append_left places (p ∷ []) i less)
              | inr more ↦
                  let past : length (places ++ p ∷ []) ≤ i = omega (arith, length-append places (p ∷ [])) in
                  let out : length places ≤ i = omega arith in
                  rw (ne_eqb i (length places) (omega arith))
                  (slice_get_past (places ++ p ∷ []) i past ∙ sym (slice_get_past places i out))
            ]
      ]

  -- a place behind all
  pub placed_behind : (places : List (Place V)) (p : Place V) → IsPlaced (length places) p places (places ++ p ∷ [])
  placed_behind places p = record { each = behind_each places p }

  behind_none : (places : List (Place V)) (p : Place V) → slice_get places (length places) ≡ Some p → p.value ≡ None
  behind_none places p there =
      let none : None ≡ Some p = sym (slice_get_past places (length places) (omega arith)) ∙ there in absurd (cc)

  -- no place is behind all
  pub free_behind : (places : List (Place V)) → IsFree places (length places)
  free_behind places = record { none = behind_none places }
