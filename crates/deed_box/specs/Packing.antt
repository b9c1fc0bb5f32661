-- Deeds, and what they are as bytes. The body's kinds and spellings are parameters: they are those of the trait.
use Rattle.std.specs.Prelude.{◌≡◌, ◌⊎◌, ℕ, Bool, List, [], ◌∷◌, IsTrue, map}
use Rattle.std.specs.List.{AllByRecursion}
use Rattle.pico_base.specs.declared.numbers.Name.{Name}
use Rattle.rpc_frame.specs.declared.deed.PackedDeed.{PackedDeed}

module _ {B : Type 0} (fits : B → Name → Bool) (IsSpelled : B → List ℕ → Type 0) where
  -- the bytes spell this deed: they are those of its body, which goes with its name
  pub record IsPackedDeed (deed : Name × B) (packed : PackedDeed) : Type 0 where
    pub name : packed.name ≡ deed.0
    pub suits : IsTrue (fits deed.1 deed.0)
    pub body : IsSpelled deed.1 packed.body

  -- so many deeds, each packed in its place
  abbrev pub ArePackedDeeds : List (Name × B) → List PackedDeed → Type 0
  ArePackedDeeds [] [] = Unit {0}
  ArePackedDeeds [] (p ∷ ps) = ⊥
  ArePackedDeeds (d ∷ ds) [] = ⊥
  ArePackedDeeds (d ∷ ds) (p ∷ ps) = IsPackedDeed d p × ArePackedDeeds ds ps

  -- no body that goes with the name has these bytes
  abbrev pub IsNoDeed : PackedDeed → Type 0
  IsNoDeed packed = (body : B) → IsTrue (fits body packed.name) → IsSpelled body packed.body → ⊥

  -- some of them has a body outside the grammar
  abbrev pub SomeIsNoDeed : List PackedDeed → Type 0
  SomeIsNoDeed [] = ⊥
  SomeIsNoDeed (p ∷ ps) = IsNoDeed p ⊎ SomeIsNoDeed ps

-- each body is of a kind that goes with its name
abbrev pub AllFit : {B : Type 0} → (B → Name → Bool) → List (Name × B) → Type 0
AllFit fits deeds = AllByRecursion (λ deed. IsTrue (fits deed.1 deed.0)) deeds

-- the names, in order
abbrev pub names_of : List PackedDeed → List Name
names_of deeds = map (λ deed. deed.name) deeds
