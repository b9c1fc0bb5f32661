-- One node's streams with the nodes before it, put together.
use Rattle.std.specs.Prelude.{◌≡◌, ℕ, List, map}
use Rattle.node_lines.specs.declared.end.End.{End}
use Rattle.pico_run.specs.Numbered.{AllFrom}
use Rattle.pico_run.specs.Grid.{Corner, IsCorner, with_theirs}
use Rattle.pico_run.specs.Joined.{AreSettled, AreTwinEnds, end_other}

-- the node with this number has this row, and the nodes before it have these rows, with their ends of it at their ends
pub record HasCorners (further : ℕ) (rows : List (List End)) (row : List End) (corners : List (Corner End))
    : Type 0 where
  pub rows_are : rows ≡ map with_theirs corners
  pub row_is : row ≡ map (λ c. c.mine) corners
  pub twins : AllFrom (IsCorner end_other AreTwinEnds further) 1 corners

pub record AreTwinsAtEnds (rows : List (List End)) (row : List End) : Type 0 where
  pub further : ℕ
  pub corners : List (Corner End)
  pub has : HasCorners further rows row corners

-- the ends are settled, and the rows without them are left
pub record IsSettledRow (further : ℕ) (corners : List (Corner End)) (olds : List (List End)) : Type 0 where
  pub olds_are : olds ≡ map (λ c. c.old) corners
  pub settled : AllFrom (IsCorner end_other AreSettled further) 1 corners

abbrev pub Settles : List (List End) → List End → List (List End) → Type 0
Settles rows row olds =
    (further : ℕ) (corners : List (Corner End)) → HasCorners further rows row corners
    → IsSettledRow further corners olds
