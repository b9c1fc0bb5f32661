-- The links of a chain whose places and ends were joined anew.
use Rattle.std.proofs.Common.{◌≡◌, ◌≢◌, ◌⊎◌, ℕ, List, [], ◌∷◌, ◌++◌, Option, Some, None, option_map, nat_eq, if◌then◌else◌, refl, sym, ap, subst, ◌∙◌, inl, inr}
use Rattle.std.proofs.lemmas.Bool.{cases_eq, eq-eqb, ne_eqb}
use Rattle.std.specs.List.{AllByRecursion}
use Rattle.number_maps.specs.Maps.{Numbered, put, without}
use Rattle.number_maps.proofs.LookUps.{get-put-same, get-put-other, get-without-same, get-without-other}
use Rattle.index_links.specs.declared.places.Link.{Link}
use Rattle.index_links.specs.Chains.{nowhere, blank, or_blank, Change, Chain, joined, added, linked, row_at, row_of}
use Rattle.index_links.proofs.Paths.{Lack, Stay, Closes, Grows, path_cut, path_into, path_onto, path_beside, path_last, path_last_has, path_grows}

-- a number of no place, or of one that has a link
abbrev pub IsValid : (ℕ → Option Link) → ℕ → Type 0
IsValid links a = (a ≡ nowhere) ⊎ ((l : Link) × (links a ≡ Some l))

valid_apart : (links : ℕ → Option Link) (a i : ℕ) → IsValid links a → links i ≡ None → i ≢ nowhere → i ≢ a
valid_apart links a i valid none ne same =
    elim valid [
      | inl end ↦ ne (same ∙ end)
      | inr h ↦ let clash : None ≡ Some h.0 = sym none ∙ (ap links same ∙ h.1) in absurd (cc)
    ]

-- what stands at another number than that of no place
pub linked_else : (ends : Link) (links : ℕ → Option Link) (i : ℕ) → i ≢ nowhere
    → linked ends links i ≡ or_blank (links i)
linked_else ends links i ne = rw (ne_eqb i nowhere ne) refl

-- where the ends and each link but one's are changed alike, so is what stands at each number
pub linked_changed : (f : Change) (ends ends' : Link) (links links' : ℕ → Option Link) (x : ℕ)
    → ends' ≡ f nowhere ends → ((i : ℕ) → i ≢ x → links' i ≡ option_map (f i) (links i))
    → ((i : ℕ) → i ≢ x → links i ≡ None → i ≢ nowhere → f i blank ≡ blank)
    → (i : ℕ) → i ≢ x → linked ends' links' i ≡ f i (linked ends links i)
linked_changed f ends ends' links links' x at_end each none i ne =
    elim (cases_eq i nowhere) [
      | inl same ↦ rw same at_end
      | inr some ↦
          linked_else ends' links' i some ∙ ap or_blank (each i ne) ∙ of_option (links i) refl some
          ∙ sym (ap (f i) (linked_else ends links i some))
    ]
  where
    of_option : (o : Option Link) → links i ≡ o → i ≢ nowhere → or_blank (option_map (f i) o) ≡ f i (or_blank o)
    of_option None is some = sym (none i ne is some)
    of_option (Some l) is some = refl

-- beside a place that was cut out
abbrev pub IsLeft : (ℕ → Option Link) → ℕ → ℕ → Type 0
IsLeft links x i = (i ≢ x) × IsValid links i

all_left : (links : ℕ → Option Link) (x : ℕ) (zs : List ℕ) → Lack x zs → AllByRecursion (IsValid links) zs
    → AllByRecursion (IsLeft links x) zs
all_left links x [] lack valid = tt
all_left links x (z ∷ zs) lack valid = ((lack.0, valid.0), all_left links x zs lack.1 valid.1)

-- ---- one place out

joined_other : (before after i : ℕ) (l : Link) → i ≢ before → i ≢ after → joined before after i l ≡ l
joined_other before after i l nb na = rw (ne_eqb i before nb, ne_eqb i after na) refl

next_other : (before after i : ℕ) (l : Link) → i ≢ before → (joined before after i l).next ≡ l.next
next_other before after i l ne = rw (ne_eqb i before ne) refl

next_same : (before after : ℕ) (l : Link) → (joined before after before l).next ≡ after
next_same before after l = rw (eq-eqb before before refl) refl

back_other : (before after i : ℕ) (l : Link) → i ≢ after → (joined before after i l).back ≡ l.back
back_other before after i l ne = rw (ne_eqb i after ne) refl

back_same : (before after : ℕ) (l : Link) → (joined before after after l).back ≡ before
back_same before after l = rw (eq-eqb after after refl) refl

module _ (ends ends' : Link) (links links' : ℕ → Option Link) (x : ℕ) (l : Link)
    (at_end : ends' ≡ joined l.back l.next nowhere ends)
    (each : (i : ℕ) → i ≢ x → links' i ≡ option_map (joined l.back l.next i) (links i))
    (before : IsValid links l.back) (after : IsValid links l.next) where
  cut_is : (i : ℕ) → i ≢ x → linked ends' links' i ≡ joined l.back l.next i (linked ends links i)
  cut_is i ne =
      linked_changed (joined l.back l.next) ends ends' links links' x at_end each
      (λ i ne none some.
      joined_other l.back l.next i blank (valid_apart links l.back i before none some)
      (valid_apart links l.next i after none some))
      i ne

  pub cut_stay : (linked ends links l.back).next ≡ x → (linked ends links l.next).back ≡ x
      → Stay (linked ends links) (linked ends' links') x
  cut_stay into onto = record {
    next = λ i nx ne.
        ap (λ (k : Link). k.next) (cut_is i nx)
        ∙ next_other l.back l.next i (linked ends links i)
        (λ same. ne (ap (λ (j : ℕ). (linked ends links j).next) same ∙ into));
    back = λ i nx ne.
        ap (λ (k : Link). k.back) (cut_is i nx)
        ∙ back_other l.back l.next i (linked ends links i)
        (λ same. ne (ap (λ (j : ℕ). (linked ends links j).back) same ∙ onto));
  }

  pub cut_closes : l.back ≢ x → l.next ≢ x → Closes (linked ends' links') l
  cut_closes nb nn = record {
    next =
        ap (λ (k : Link). k.next) (cut_is l.back nb) ∙ next_same l.back l.next (linked ends links l.back);
    back =
        ap (λ (k : Link). k.back) (cut_is l.next nn) ∙ back_same l.back l.next (linked ends links l.next);
  }

-- ---- one place more

-- what is added at the end changes no link but those beside it
pub added_other : (last at i : ℕ) (l : Link) → i ≢ last → i ≢ at → i ≢ nowhere → added last at i l ≡ l
added_other last at i l nl na nn = rw (ne_eqb i last nl, ne_eqb i at na, ne_eqb i nowhere nn) refl

added_next : (last at i : ℕ) (l : Link) → i ≢ last → i ≢ at → (added last at i l).next ≡ l.next
added_next last at i l nl na = rw (ne_eqb i last nl, ne_eqb i at na) refl

added_back : (last at i : ℕ) (l : Link) → i ≢ at → i ≢ nowhere → (added last at i l).back ≡ l.back
added_back last at i l na nn = rw (ne_eqb i at na, ne_eqb i nowhere nn) refl

added_onto : (last at : ℕ) (l : Link) → last ≢ at → (added last at last l).next ≡ at
added_onto last at l ne = rw (ne_eqb last at ne, eq-eqb last last refl) refl

added_new_next : (last at : ℕ) (l : Link) → (added last at at l).next ≡ nowhere
added_new_next last at l = rw (eq-eqb at at refl) refl

added_new_back : (last at : ℕ) (l : Link) → at ≢ nowhere → (added last at at l).back ≡ last
added_new_back last at l nn = rw (ne_eqb at nowhere nn, eq-eqb at at refl) refl

-- what is added at the end grows a chain
pub added_grows : (ends ends' : Link) (links links' : ℕ → Option Link) (at : ℕ) (l : Link)
    → ends' ≡ added ends.back at nowhere ends
    → ((i : ℕ) → i ≢ at → links' i ≡ option_map (added ends.back at i) (links i))
    → links' at ≡ Some (added ends.back at at l) → at ≢ nowhere → ends.back ≢ at → IsValid links ends.back
    → (linked ends links ends.back).next ≡ nowhere → Grows (linked ends links) (linked ends' links') at
added_grows ends ends' links links' at l at_end each here nn nl valid led =
    let is : (i : ℕ) → i ≢ at → linked ends' links' i ≡ added ends.back at i (linked ends links i) =
    linked_changed (added ends.back at) ends ends' links links' at at_end each
    (λ i ne none some. added_other ends.back at i blank (valid_apart links ends.back i valid none some) ne some) in
    let new : linked ends' links' at ≡ added ends.back at at l = linked_else ends' links' at nn ∙ ap or_blank here in
    record {
      next = λ i na ne.
          ap (λ (k : Link). k.next) (is i na)
          ∙ added_next ends.back at i (linked ends links i)
          (λ same. ne (ap (λ (j : ℕ). (linked ends links j).next) same ∙ led)) na;
      back = λ i na ne. ap (λ (k : Link). k.back) (is i na) ∙ added_back ends.back at i (linked ends links i) na ne;
      onto =
          ap (λ (k : Link). k.next) (is ends.back nl) ∙ added_onto ends.back at (linked ends links ends.back) nl;
      new_next = ap (λ (k : Link). k.next) new ∙ added_new_next ends.back at l;
      new_back = ap (λ (k : Link). k.back) new ∙ added_new_back ends.back at l nn;
      end = ap (λ (k : Link). k.back) at_end;
    }

-- ---- whole chains

-- a chain with one place out
pub chain_cut : (ends ends' : Link) (links links' : ℕ → Option Link) (x : ℕ) (l : Link) (xs ys : List ℕ)
    → links x ≡ Some l → x ≢ nowhere → ends' ≡ joined l.back l.next nowhere ends
    → ((i : ℕ) → i ≢ x → links' i ≡ option_map (joined l.back l.next i) (links i)) → Lack x xs → Lack x ys
    → AllByRecursion (IsValid links) xs → AllByRecursion (IsValid links) ys
    → Chain (linked ends links) (xs ++ x ∷ ys) → Chain (linked ends' links') (xs ++ ys)
chain_cut ends ends' links links' x l xs ys there some at_end each lack_xs lack_ys valid_xs valid_ys chain =
    let L : ℕ → Link = linked ends links in
    let here : L x ≡ l = linked_else ends links x some ∙ ap or_blank there in
    let apart : nowhere ≢ x = λ e. some (sym e) in
    let left = path_beside L (IsLeft links x) x nowhere xs ys nowhere (apart, inl refl)
    (all_left links x xs lack_xs valid_xs)
    (all_left links x ys lack_ys valid_ys) (apart, inl refl) chain in
    let back : IsLeft links x l.back = subst (λ (k : Link). IsLeft links x k.back) here left.0 in
    let next : IsLeft links x l.next = subst (λ (k : Link). IsLeft links x k.next) here left.1 in
    let into : (L l.back).next ≡ x =
    subst (λ (k : Link). (L k.back).next ≡ x) here (path_into L x nowhere xs ys nowhere chain) in
    let onto : (L l.next).back ≡ x =
    subst (λ (k : Link). (L k.next).back ≡ x) here (path_onto L x nowhere xs ys nowhere chain) in
    path_cut L (linked ends' links') x l here
    (cut_stay ends ends' links links' x l at_end each back.1 next.1 into onto)
    (cut_closes ends ends' links links' x l at_end each back.1 next.1 back.0 next.0) nowhere xs ys nowhere apart lack_xs
    lack_ys apart chain

-- a chain with one place more
pub chain_grown : (ends ends' : Link) (links links' : ℕ → Option Link) (at : ℕ) (l : Link) (zs : List ℕ)
    → ends' ≡ added ends.back at nowhere ends
    → ((i : ℕ) → i ≢ at → links' i ≡ option_map (added ends.back at i) (links i))
    → links' at ≡ Some (added ends.back at at l) → at ≢ nowhere → Lack at zs → Lack nowhere zs
    → AllByRecursion (IsValid links) zs → Chain (linked ends links) zs → Chain (linked ends' links') (zs ++ at ∷ [])
chain_grown ends ends' links links' at l zs at_end each here some lack lack_end valid chain =
    let L : ℕ → Link = linked ends links in
    let apart : nowhere ≢ at = λ e. some (sym e) in
    let last : ends.back ≢ at = path_last_has L (λ i. i ≢ at) nowhere zs nowhere apart lack chain in
    let is_valid : IsValid links ends.back = path_last_has L (IsValid links) nowhere zs nowhere
    (inl refl) valid chain in
    let led : (L ends.back).next ≡ nowhere = path_last L nowhere zs nowhere chain in
    path_grows L (linked ends' links') at
    (added_grows ends ends' links links' at l at_end each here some last is_valid led) nowhere zs apart lack lack_end
    chain

-- where a place is cut out of a chain, a chain over the same places that lacks it stays
pub cut_others : (row ends : Link) (links links' : ℕ → Option Link) (x : ℕ) (l : Link)
    → ((i : ℕ) → i ≢ x → links' i ≡ option_map (joined l.back l.next i) (links i))
    → (linked ends links l.back).next ≡ x → (linked ends links l.next).back ≡ x
    → Stay (linked row links) (linked row links') x
cut_others row ends links links' x l each into onto = record {
  next = λ i nx ne.
      elim (cases_eq i nowhere) [
        | inl same ↦ rw same refl
        | inr some ↦
            let apart : i ≢ l.back = λ same.
            ne (ap (λ (k : Link). k.next) (alike_at i some) ∙ (ap (λ (j : ℕ). (linked ends links j).next) same ∙ into))
            in ap (λ (k : Link). k.next) (linked_else row links' i some ∙ ap or_blank (each i nx))
            ∙ (next_stays i (links i) apart ∙ sym (ap (λ (k : Link). k.next) (linked_else row links i some)))
      ];
  back = λ i nx ne.
      elim (cases_eq i nowhere) [
        | inl same ↦ rw same refl
        | inr some ↦
            let apart : i ≢ l.next = λ same.
            ne (ap (λ (k : Link). k.back) (alike_at i some) ∙ (ap (λ (j : ℕ). (linked ends links j).back) same ∙ onto))
            in ap (λ (k : Link). k.back) (linked_else row links' i some ∙ ap or_blank (each i nx))
            ∙ (back_stays i (links i) apart ∙ sym (ap (λ (k : Link). k.back) (linked_else row links i some)))
      ];
}
  where
    alike_at : (i : ℕ) → i ≢ nowhere → linked row links i ≡ linked ends links i
    alike_at i some = linked_else row links i some ∙ sym (linked_else ends links i some)

    next_stays : (i : ℕ) (o : Option Link) → i ≢ l.back
        → (or_blank (option_map (joined l.back l.next i) o)).next ≡ (or_blank o).next
    next_stays i None ne = refl
    next_stays i (Some k) ne = next_other l.back l.next i k ne

    back_stays : (i : ℕ) (o : Option Link) → i ≢ l.next
        → (or_blank (option_map (joined l.back l.next i) o)).back ≡ (or_blank o).back
    back_stays i None ne = refl
    back_stays i (Some k) ne = back_other l.back l.next i k ne

-- ---- a row

-- a link of these
abbrev pub leading : ℕ → ℕ → Link
leading next back = record { next = next; back = back }

-- a chain's own links that lead nowhere are those of nothing
pub row_empty : (row : Link) (links : ℕ → Option Link) (zs : List ℕ) → Lack nowhere zs → Chain (linked row links) zs
    → row.next ≡ nowhere → row ≡ blank
row_empty row links [] lack chain ends =
    ap (λ (n : ℕ). leading n row.back) ends ∙ ap (leading nowhere) chain.1
row_empty row links (z ∷ zs) lack chain ends = absurd (lack.0 (sym chain.0 ∙ ends))

-- what is kept of a row that was changed stands for it
pub row_of_is : (row : Link) → (row.next ≡ nowhere → row ≡ blank) → or_blank (row_of row) ≡ row
row_of_is row empty =
    elim (cases_eq row.next nowhere) [
      | inl ends ↦ rw (eq-eqb row.next nowhere ends) (sym (empty ends))
      | inr some ↦ rw (ne_eqb row.next nowhere some) refl
    ]

-- rows of which the one of a class was written
pub row_written : (m : Numbered Link) (key q : ℕ) (row : Link) → row.next ≢ nowhere
    → row_at (put m key row) q ≡ (if nat_eq q key then or_blank (row_of row) else row_at m q)
row_written m key q row some =
    let kept : row_of row ≡ Some row = rw (ne_eqb row.next nowhere some) refl in
    elim (cases_eq q key) [
      | inl same ↦ rw (same, eq-eqb key key refl) (ap or_blank (get-put-same m key row ∙ sym kept))
      | inr ne ↦ rw (ne_eqb q key ne) (ap or_blank (get-put-other m key row q ne))
    ]

-- rows of which the one of a class came to lead nowhere, and stays
pub row_emptied : (m : Numbered Link) (key q : ℕ) (row : Link) → row.next ≡ nowhere
    → row_at (put m key blank) q ≡ (if nat_eq q key then or_blank (row_of row) else row_at m q)
row_emptied m key q row ends =
    let none : row_of row ≡ None = rw (eq-eqb row.next nowhere ends) refl in
    elim (cases_eq q key) [
      | inl same ↦
          rw (same, eq-eqb key key refl) (ap or_blank (get-put-same m key blank) ∙ sym (ap or_blank none))
      | inr ne ↦ rw (ne_eqb q key ne) (ap or_blank (get-put-other m key blank q ne))
    ]

-- rows of which the one of a class came to lead nowhere, and was taken out
pub row_taken : (m : Numbered Link) (key q : ℕ) (row : Link) → row.next ≡ nowhere
    → row_at (without m key) q ≡ (if nat_eq q key then or_blank (row_of row) else row_at m q)
row_taken m key q row ends =
    let none : row_of row ≡ None = rw (eq-eqb row.next nowhere ends) refl in
    elim (cases_eq q key) [
      | inl same ↦ rw (same, eq-eqb key key refl) (ap or_blank (get-without-same m key ∙ sym none))
      | inr ne ↦ rw (ne_eqb q key ne) (ap or_blank (get-without-other m key q ne))
    ]

-- one more row that leads nowhere
pub blank_more : (m m' : Numbered Link) (key : ℕ) → m' ≡ put m key blank → ((q : ℕ) → row_at m q ≡ blank) → (q : ℕ)
    → row_at m' q ≡ blank
blank_more m m' key is each q =
    let put_in : row_at m' q ≡ row_at (put m key blank) q = ap (λ (n : Numbered Link). row_at n q) is in
    elim (cases_eq q key) [
      | inl same ↦ put_in ∙ rw same (ap or_blank (get-put-same m key blank))
      | inr ne ↦ put_in ∙ (ap or_blank (get-put-other m key blank q ne) ∙ each q)
    ]
