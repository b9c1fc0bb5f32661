-- Where a variable is among variables that rise, or where it would go.
use Rattle.std.specs.Prelude.{◌≡◌, ℕ, ◌<◌, ◌≤◌, length, slice_index_or}
use Rattle.kernel_model.specs.Script.{Vars}

-- the variable at a place
abbrev pub variable_at : Vars → ℕ → ℕ
variable_at vars i = (slice_index_or vars i (0, 0)).0

pub record IsAt (vars : Vars) (variable place : ℕ) : Type 0 where
  pub within : place < length vars
  pub here : variable_at vars place ≡ variable

-- smaller ones stand before it, and greater ones from it on
pub record IsGapFor (vars : Vars) (variable place : ℕ) : Type 0 where
  pub within : place ≤ length vars
  pub smaller : (i : ℕ) → i < place → variable_at vars i < variable
  pub greater : (i : ℕ) → place ≤ i → i < length vars → variable < variable_at vars i
