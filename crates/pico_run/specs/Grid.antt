-- The streams between all nodes of a script. Each node has a row of ends, by rising number of the other node.
use Rattle.std.specs.Prelude.{◌≡◌, ℕ, zero, suc, ◌+◌, List, [], ◌∷◌, ◌++◌, map}
use Rattle.std.specs.List.{AllByRecursion}
use Rattle.stream_pair.specs.Ends.{StreamId}
use Rattle.node_lines.specs.declared.end.End.{End}
use Rattle.log_model.specs.Views.{Line, LoggedNode}
use Rattle.pico_run.specs.declared.grid.Row.{Row}
use Rattle.pico_run.specs.Numbered.{AllFrom}

-- ---- rows of nodes that were added one after the other

-- What a further node adds to the row of one before it, `old`: their end of the streams between them, and its own end.
pub record Corner (A : Type 0) : Type 0 where
  pub old : List A
  pub mine : A
  pub theirs : A

abbrev pub with_theirs : {A : Type 0} → Corner A → List A
with_theirs corner = corner.old ++ corner.theirs ∷ []

-- the end of the further node leads to this one, and theirs to it, and this holds of both
pub record IsCorner {A : Type 0} (other : A → ℕ) (R : A → A → Type 0) (further number : ℕ) (corner : Corner A)
    : Type 0 where
  pub to_them : other corner.mine ≡ number
  pub to_me : other corner.theirs ≡ further
  pub both : R corner.mine corner.theirs

-- these rows are the old ones, of so many nodes, with a further node
pub record IsGrown {A : Type 0} (other : A → ℕ) (R : A → A → Type 0) (count : ℕ) (olds rows : List (List A))
    : Type 0 where
  pub corners : List (Corner A)
  pub olds_are : olds ≡ map (λ c. c.old) corners
  pub rows_are : rows ≡ map with_theirs corners ++ map (λ c. c.mine) corners ∷ []
  pub are : AllFrom (IsCorner other R (count + 1)) 1 corners

pub record IsGrownFrom {A : Type 0} (other : A → ℕ) (R : A → A → Type 0) (count : ℕ) (rows : List (List A))
    (Rest : List (List A) → Type 0) : Type 0 where
  pub olds : List (List A)
  pub grown : IsGrown other R count olds rows
  pub rest : Rest olds

-- the rows of so many nodes, each of which was added to those before it
abbrev pub IsMesh : {A : Type 0} → (A → ℕ) → (A → A → Type 0) → ℕ → List (List A) → Type 0
IsMesh other R zero rows = rows ≡ []
IsMesh other R (suc count) rows = IsGrownFrom other R count rows (λ olds. IsMesh other R count olds)

-- ---- ends of streams

-- an end without what went over it: the other node, the stream that leads to it, and the one from it
pub record Wire : Type 0 where
  pub other : ℕ
  pub there : StreamId
  pub back : StreamId

abbrev pub wire_of : End → Wire
wire_of end = record { other = end.other; there = end.out.stream; back = end.into.stream }

abbrev pub line_wire : Line → Wire
line_wire line = record { other = line.other; there = line.out.stream; back = line.into.stream }

-- each has the other ends of both streams
pub record AreTwins (mine theirs : Wire) : Type 0 where
  pub there : mine.there ≡ theirs.back
  pub back : theirs.there ≡ mine.back

abbrev pub WiresAreGrown : ℕ → List (List Wire) → List (List Wire) → Type 0
WiresAreGrown count olds rows = IsGrown (λ (w : Wire). w.other) AreTwins count olds rows

abbrev pub IsGrid : ℕ → List (List Wire) → Type 0
IsGrid count rows = IsMesh (λ (w : Wire). w.other) AreTwins count rows

-- the wires of rows, and of nodes
abbrev pub rows_of : List Row → List (List Wire)
rows_of rows = map (λ r. map wire_of r.ends) rows

abbrev pub wires_of : LoggedNode → List Wire
wires_of l = map line_wire l.lines

abbrev pub wires_of_all : List LoggedNode → List (List Wire)
wires_of_all nodes = map wires_of nodes

-- nothing went over it
pub record IsNewEnd (end : End) : Type 0 where
  pub sent : end.out.sent ≡ []
  pub taken : end.into.taken ≡ []

abbrev pub IsNewRow : Row → Type 0
IsNewRow row = AllByRecursion IsNewEnd row.ends
