-- What a table is seen as: entries by rising number; and where a number stands or belongs among them.
use Rattle.std.specs.Prelude.{◌≡◌, ℕ, List, ◌∷◌, ◌++◌, length, refl}
use Rattle.std.specs.Coded.{Coded, code_by, coded×, coded_list, coded_ℕ}
use Rattle.std.specs.List.{AllByRecursion}
use Rattle.std.specs.Ordering.{nat_cmp}
use Rattle.std.specs.declared.cmp.Ordering.TheVariants.{Less, Greater}
use Rattle.number_maps.specs.Maps.{Numbered}

-- the entries, and how many there can be before memory is asked for
pub record Shelf (B : Type 0) : Type 0 where
  pub entries : Numbered B
  pub capacity : ℕ

abbrev pub shelf_code : {B : Type 0} → Coded B → Coded (Shelf B)
shelf_code {B} b =
    code_by (List (ℕ × B) × ℕ) (coded× (coded_list (coded× coded_ℕ b)) coded_ℕ) (λ s. (s.entries, s.capacity))
    (λ p. record { entries = p.0; capacity = p.1 }) (λ _. refl)

module _ {B : Type 0} (entries : Numbered B) (number place : ℕ) where
  -- the number's entry stands there
  pub record StandsAt : Type 0 where
    pub before : Numbered B
    pub body : B
    pub after : Numbered B
    pub split : entries ≡ before ++ (number, body) ∷ after
    pub counted : length before ≡ place
    pub lower : AllByRecursion (λ e. nat_cmp e.0 number ≡ Less) before
    pub higher : AllByRecursion (λ e. nat_cmp e.0 number ≡ Greater) after

  -- the number has no entry, and one would belong there
  pub record BelongsAt : Type 0 where
    pub before : Numbered B
    pub after : Numbered B
    pub split : entries ≡ before ++ after
    pub counted : length before ≡ place
    pub lower : AllByRecursion (λ e. nat_cmp e.0 number ≡ Less) before
    pub higher : AllByRecursion (λ e. nat_cmp e.0 number ≡ Greater) after
