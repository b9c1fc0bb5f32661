-- Paths over places: what changes of links leave them, take a place out, or add one at the end.
use Rattle.std.proofs.Common.{◌≡◌, ◌≢◌, ℕ, List, [], ◌∷◌, ◌++◌, sym, ap, ◌∙◌, subst}
use Rattle.std.specs.List.{AllByRecursion}
use Rattle.index_links.specs.declared.places.Link.{Link}
use Rattle.index_links.specs.Chains.{nowhere, Path}

-- none of the places is this one
abbrev pub Lack : ℕ → List ℕ → Type 0
Lack x zs = AllByRecursion (λ z. z ≢ x) zs

-- where the links at all places of a path stay, the path stays
pub path_same : (L M : ℕ → Link) (P : ℕ → Type 0) → ((i : ℕ) → P i → M i ≡ L i) → (a : ℕ) (zs : List ℕ) (b : ℕ) → P a
    → AllByRecursion P zs → P b → Path L a zs b → Path M a zs b
path_same L M P same a [] b pa ps pb path =
    (ap (λ (l : Link). l.next) (same a pa) ∙ path.0, ap (λ (l : Link). l.back) (same b pb) ∙ path.1)
path_same L M P same a (z ∷ zs) b pa ps pb path = (
  ap (λ (l : Link). l.next) (same a pa) ∙ path.0,
  ap (λ (l : Link). l.back) (same z ps.0) ∙ path.1,
  path_same L M P same z zs b ps.0 ps.1 pb path.2,
)

-- ---- one place out

-- every link that doesn't lead to the place stays, but for those of the place itself
pub record Stay (L M : ℕ → Link) (x : ℕ) : Type 0 where
  pub next : (i : ℕ) → i ≢ x → (L i).next ≢ x → (M i).next ≡ (L i).next
  pub back : (i : ℕ) → i ≢ x → (L i).back ≢ x → (M i).back ≡ (L i).back

-- and those beside it, to which its links lead, lead to each other
pub record Closes (M : ℕ → Link) (l : Link) : Type 0 where
  pub next : (M l.back).next ≡ l.next
  pub back : (M l.next).back ≡ l.back

-- a path without the place stays
pub path_stays : (L M : ℕ → Link) (x : ℕ) → Stay L M x → (a : ℕ) (zs : List ℕ) (b : ℕ) → a ≢ x → Lack x zs → b ≢ x
    → Path L a zs b → Path M a zs b
path_stays L M x stay a [] b na lack nb path =
    (stay.next a na (λ e. nb (sym path.0 ∙ e)) ∙ path.0, stay.back b nb (λ e. na (sym path.1 ∙ e)) ∙ path.1)
path_stays L M x stay a (z ∷ zs) b na lack nb path = (
  stay.next a na (λ e. lack.0 (sym path.0 ∙ e)) ∙ path.0,
  stay.back z lack.0 (λ e. na (sym path.1 ∙ e)) ∙ path.1,
  path_stays L M x stay z zs b lack.0 lack.1 nb path.2,
)

-- a path with the place is one without it
pub path_cut : (L M : ℕ → Link) (x : ℕ) (l : Link) → L x ≡ l → Stay L M x → Closes M l
    → (a : ℕ) (xs ys : List ℕ) (b : ℕ)
    → a ≢ x → Lack x xs → Lack x ys → b ≢ x → Path L a (xs ++ x ∷ ys) b → Path M a (xs ++ ys) b
path_cut L M x l here stay closes a [] [] b na before after nb path =
    let back : l.back ≡ a = sym (ap (λ (k : Link). k.back) here) ∙ path.1 in
    let next : l.next ≡ b = sym (ap (λ (k : Link). k.next) here) ∙ path.2.0 in (
      ap (λ (i : ℕ). (M i).next) (sym back) ∙ closes.next ∙ next,
      ap (λ (i : ℕ). (M i).back) (sym next) ∙ closes.back ∙ back,
    )
path_cut L M x l here stay closes a [] (y ∷ ys) b na before after nb path =
    let back : l.back ≡ a = sym (ap (λ (k : Link). k.back) here) ∙ path.1 in
    let next : l.next ≡ y = sym (ap (λ (k : Link). k.next) here) ∙ path.2.0 in (
      ap (λ (i : ℕ). (M i).next) (sym back) ∙ closes.next ∙ next,
      ap (λ (i : ℕ). (M i).back) (sym next) ∙ closes.back ∙ back,
      path_stays L M x stay y ys b after.0 after.1 nb path.2.2,
    )
path_cut L M x l here stay closes a (z ∷ zs) ys b na before after nb path = (
  stay.next a na (λ e. before.0 (sym path.0 ∙ e)) ∙ path.0,
  stay.back z before.0 (λ e. na (sym path.1 ∙ e)) ∙ path.1,
  path_cut L M x l here stay closes z zs ys b before.0 before.1 after nb path.2,
)

-- the link before a place of a path leads to it
pub path_into : (L : ℕ → Link) (x a : ℕ) (xs ys : List ℕ) (b : ℕ) → Path L a (xs ++ x ∷ ys) b
    → (L (L x).back).next ≡ x
path_into L x a [] ys b path = ap (λ (i : ℕ). (L i).next) path.1 ∙ path.0
path_into L x a (z ∷ zs) ys b path = path_into L x z zs ys b path.2

-- and the link behind it leads back to it
pub path_onto : (L : ℕ → Link) (x a : ℕ) (xs ys : List ℕ) (b : ℕ) → Path L a (xs ++ x ∷ ys) b
    → (L (L x).next).back ≡ x
path_onto L x a [] [] b path = ap (λ (i : ℕ). (L i).back) path.2.0 ∙ path.2.1
path_onto L x a [] (y ∷ ys) b path = ap (λ (i : ℕ). (L i).back) path.2.0 ∙ path.2.1
path_onto L x a (z ∷ zs) ys b path = path_onto L x z zs ys b path.2

-- what stands behind a place of a path is a path from it
pub path_after : (L : ℕ → Link) (x a : ℕ) (xs ys : List ℕ) (b : ℕ) → Path L a (xs ++ x ∷ ys) b → Path L x ys b
path_after L x a [] ys b path = path.2
path_after L x a (z ∷ zs) ys b path = path_after L x z zs ys b path.2

-- what holds of all places of a path but one holds of those beside it
pub path_beside : (L : ℕ → Link) (P : ℕ → Type 0) (x a : ℕ) (xs ys : List ℕ) (b : ℕ) → P a → AllByRecursion P xs
    → AllByRecursion P ys → P b → Path L a (xs ++ x ∷ ys) b → P (L x).back × P (L x).next
path_beside L P x a [] [] b pa before after pb path = (subst P (sym path.1) pa, subst P (sym path.2.0) pb)
path_beside L P x a [] (y ∷ ys) b pa before after pb path = (subst P (sym path.1) pa, subst P (sym path.2.0) after.0)
path_beside L P x a (z ∷ zs) ys b pa before after pb path =
    path_beside L P x z zs ys b before.0 before.1 after pb path.2

-- ---- one place more at the end

-- the link before the end leads to it
pub path_last : (L : ℕ → Link) (a : ℕ) (zs : List ℕ) (b : ℕ) → Path L a zs b → (L (L b).back).next ≡ b
path_last L a [] b path = ap (λ (i : ℕ). (L i).next) path.1 ∙ path.0
path_last L a (z ∷ zs) b path = path_last L z zs b path.2

-- what holds of all places of a path holds of the last
pub path_last_has : (L : ℕ → Link) (P : ℕ → Type 0) (a : ℕ) (zs : List ℕ) (b : ℕ) → P a → AllByRecursion P zs
    → Path L a zs b → P ((L b).back)
path_last_has L P a [] b pa ps path = subst P (sym path.1) pa
path_last_has L P a (z ∷ zs) b pa ps path = path_last_has L P z zs b ps.0 ps.1 path.2

-- every link stays, but those that lead to the end, those of the end and those of the new place
pub record Grows (L M : ℕ → Link) (x : ℕ) : Type 0 where
  pub next : (i : ℕ) → i ≢ x → (L i).next ≢ nowhere → (M i).next ≡ (L i).next
  pub back : (i : ℕ) → i ≢ x → i ≢ nowhere → (M i).back ≡ (L i).back
  pub onto : (M (L nowhere).back).next ≡ x
  pub new_next : (M x).next ≡ nowhere
  pub new_back : (M x).back ≡ (L nowhere).back
  pub end : (M nowhere).back ≡ x

-- a path to the end with one place more
pub path_grows : (L M : ℕ → Link) (x : ℕ) → Grows L M x → (a : ℕ) (zs : List ℕ) → a ≢ x → Lack x zs
    → Lack nowhere zs → Path L a zs nowhere → Path M a (zs ++ x ∷ []) nowhere
path_grows L M x grows a [] na lack some path = (
  ap (λ (i : ℕ). (M i).next) (sym path.1) ∙ grows.onto,
  grows.new_back ∙ path.1,
  (grows.new_next, grows.end),
)
path_grows L M x grows a (z ∷ zs) na lack some path = (
  grows.next a na (λ e. some.0 (sym path.0 ∙ e)) ∙ path.0,
  grows.back z lack.0 some.0 ∙ path.1,
  path_grows L M x grows z zs lack.0 lack.1 some.1 path.2,
)
