-- A further node's row, as its streams with the nodes before it are made one after the other.
use Rattle.std.proofs.Common.{◌≡◌, ℕ, suc, ◌+◌, ◌<◌, ◌≤◌, List, [], ◌∷◌, ◌++◌, length, map, refl, ap, sym, subst, ◌∙◌, arith, append_assoc}
use Rattle.std.specs.List.{AllByRecursion}
use Rattle.std.proofs.lemmas.List.{append-nil, length-append}
use Rattle.log_laws.proofs.Lists.{append-all}
use Rattle.node_lines.specs.declared.end.End.{End}
use Rattle.pico_run.specs.declared.grid.Row.{Row}
use Rattle.pico_run.specs.Numbered.{AllFrom}
use Rattle.pico_run.specs.Grid.{AreTwins, Corner, IsCorner, IsNewEnd, IsGrid, IsNewRow, Wire, WiresAreGrown, rows_of, wire_of, with_theirs}
use Rattle.pico_run.proofs.Lists.{all-from-more, length-map, map-more}
use Rattle.pico_run.proofs.Meshes.{mesh-length}

abbrev IsWireCorner : ℕ → ℕ → Corner Wire → Type 0
IsWireCorner further k c = IsCorner (λ (w : Wire). w.other) AreTwins further k c

-- the streams with some of the nodes are made, and those with the nodes of the rows that are left are not
pub record IsGrowing (rows grown : List Row) (ends : List End) (left : List Row) : Type 0 where
  pub corners : List (Corner Wire)
  pub olds_are : rows_of rows ≡ map (λ c. c.old) corners ++ rows_of left
  pub ends_are : map wire_of ends ≡ map (λ c. c.mine) corners
  pub grown_are : rows_of grown ≡ map with_theirs corners
  pub are : AllFrom (IsWireCorner (length rows + 1)) 1 corners
  pub count : length grown + length left ≡ length rows
  pub new_grown : AllByRecursion IsNewRow grown
  pub new_ends : AllByRecursion IsNewEnd ends
  pub new_left : AllByRecursion IsNewRow left

pub growing-start : (rows left grown : List Row) (ends : List End) → left ≡ rows → grown ≡ [] → ends ≡ []
    → AllByRecursion IsNewRow rows → IsGrowing rows grown ends left
growing-start rows left grown ends same none no_ends new =
    let start : IsGrowing rows [] [] rows =
    record {
      corners = [];
      olds_are = refl;
      ends_are = refl;
      grown_are = refl;
      are = tt;
      count = (let e : 0 + length rows ≡ length rows = omega arith in e);
      new_grown = tt;
      new_ends = tt;
      new_left = new;
    }
    in subst (λ (l : List Row). IsGrowing rows grown ends l) (sym same)
    (subst (λ (g : List Row). IsGrowing rows g ends rows) (sym none)
    (subst (λ (es : List End). IsGrowing rows [] es rows) (sym no_ends) start))

-- the streams between the node and one more of those before it
pub record AreStreams (further number : ℕ) (mine theirs : End) : Type 0 where
  pub to_them : mine.other ≡ number
  pub to_me : theirs.other ≡ further
  pub twins : AreTwins (wire_of mine) (wire_of theirs)
  pub new_mine : IsNewEnd mine
  pub new_theirs : IsNewEnd theirs

-- a further pair of ends is added
pub growing-more : (rows grown more : List Row) (ends more_ends : List End) (left rest : List Row) (row new : Row)
    (mine theirs : End) → IsGrowing rows grown ends left → left ≡ row ∷ rest
    → AreStreams (length rows + 1) (length grown + 1) mine theirs → more_ends ≡ ends ++ mine ∷ []
    → new.ends ≡ row.ends ++ theirs ∷ [] → more ≡ grown ++ new ∷ [] → IsGrowing rows more more_ends rest
growing-more rows grown more ends more_ends left rest row new mine theirs h is s with_mine with_theirs_too with_new =
    let corner : Corner Wire = record { old = map wire_of row.ends; mine = wire_of mine; theirs = wire_of theirs }
    in let left_new : AllByRecursion IsNewRow (row ∷ rest) =
    subst (λ (l : List Row). AllByRecursion IsNewRow l) is h.new_left
    in let grown_so_far : length grown ≡ length h.corners =
    sym (length-map (λ (r : Row). map wire_of r.ends) grown)
    ∙ ap length h.grown_are
    ∙ length-map with_theirs h.corners
    in let at : length grown + 1 ≡ 1 + length h.corners = omega (arith, grown_so_far)
    in let left_count : length left ≡ suc (length rest) = ap length is
    in let more_count : length more ≡ length grown + 1 = ap length with_new ∙ length-append grown (new ∷ [])
    in let new_row : map wire_of new.ends ≡ with_theirs corner =
    ap (λ (es : List End). map wire_of es) with_theirs_too ∙ map-more wire_of row.ends theirs
    in let so_far : length grown + length left ≡ length rows = h.count
    in record {
      corners = h.corners ++ corner ∷ [];
      olds_are =
          h.olds_are
          ∙ ap (λ (l : List Row). map (λ (c : Corner Wire). c.old) h.corners ++ rows_of l) is
          ∙ sym (append_assoc (map (λ (c : Corner Wire). c.old) h.corners) (corner.old ∷ []) (rows_of rest))
          ∙ ap (λ (xs : List (List Wire)). xs ++ rows_of rest)
          (sym (map-more (λ (c : Corner Wire). c.old) h.corners corner));
      ends_are =
          ap (λ (es : List End). map wire_of es) with_mine
          ∙ map-more wire_of ends mine
          ∙ ap (λ (ws : List Wire). ws ++ wire_of mine ∷ []) h.ends_are
          ∙ sym (map-more (λ (c : Corner Wire). c.mine) h.corners corner);
      grown_are =
          ap rows_of with_new
          ∙ map-more (λ (r : Row). map wire_of r.ends) grown new
          ∙ ap (λ (xs : List (List Wire)). xs ++ map wire_of new.ends ∷ []) h.grown_are
          ∙ ap (λ (x : List Wire). map with_theirs h.corners ++ x ∷ []) new_row
          ∙ sym (map-more with_theirs h.corners corner);
      are =
          all-from-more (IsWireCorner (length rows + 1)) 1 h.corners corner h.are
          (record { to_them = s.to_them ∙ at; to_me = s.to_me; both = s.twins });
      count = omega (arith, left_count, more_count, so_far);
      new_grown =
          subst (λ (xs : List Row). AllByRecursion IsNewRow xs) (sym with_new)
          (append-all IsNewRow grown (new ∷ []) h.new_grown (
            subst (λ (es : List End). AllByRecursion IsNewEnd es) (sym with_theirs_too)
                (append-all IsNewEnd row.ends (theirs ∷ []) left_new.0 (s.new_theirs, tt)),
            tt,
          ));
      new_ends =
          subst (λ (es : List End). AllByRecursion IsNewEnd es) (sym with_mine)
          (append-all IsNewEnd ends (mine ∷ []) h.new_ends (s.new_mine, tt));
      new_left = left_new.1;
    }

pub growing-end : (rows grown more : List Row) (ends : List End) (left : List Row) (row : Row)
    → IsGrowing rows grown ends left → left ≡ [] → row.ends ≡ ends → more ≡ grown ++ row ∷ []
    → WiresAreGrown (length rows) (rows_of rows) (rows_of more)
growing-end rows grown more ends left row h none own with_own =
    record {
      corners = h.corners;
      olds_are =
          h.olds_are
          ∙ ap (λ (l : List Row). map (λ (c : Corner Wire). c.old) h.corners ++ rows_of l) none
          ∙ append-nil (map (λ (c : Corner Wire). c.old) h.corners);
      rows_are =
          ap rows_of with_own
          ∙ map-more (λ (r : Row). map wire_of r.ends) grown row
          ∙ ap (λ (xs : List (List Wire)). xs ++ map wire_of row.ends ∷ []) h.grown_are
          ∙ ap (λ (x : List Wire). map with_theirs h.corners ++ x ∷ [])
          (ap (λ (es : List End). map wire_of es) own ∙ h.ends_are);
      are = h.are;
    }

pub growing-end-new : (rows grown more : List Row) (ends : List End) (left : List Row) (row : Row)
    → IsGrowing rows grown ends left → row.ends ≡ ends → more ≡ grown ++ row ∷ [] → AllByRecursion IsNewRow more
growing-end-new rows grown more ends left row h own with_own =
    subst (λ (xs : List Row). AllByRecursion IsNewRow xs) (sym with_own)
    (append-all IsNewRow grown (row ∷ []) h.new_grown
    (subst (λ (es : List End). AllByRecursion IsNewEnd es) (sym own) h.new_ends, tt))

-- there is room for the number of a further node
pub growing-room : (rows grown : List Row) (ends : List End) (left rest : List Row) (row : Row)
    → IsGrowing rows grown ends left → left ≡ row ∷ rest → length rows < 32 → length grown < 32
growing-room rows grown ends left rest row h is few =
    let left_count : length left ≡ suc (length rest) = ap length is
    in let so_far : length grown + length left ≡ length rows = h.count
    in omega (arith, left_count, so_far, few)

-- ---- all nodes

-- a grid of so many nodes has as many rows
pub rows-count : (n : ℕ) (rows : List Row) → IsGrid n (rows_of rows) → length rows ≡ n
rows-count n rows grid =
    sym (length-map (λ (r : Row). map wire_of r.ends) rows)
    ∙ mesh-length (λ (w : Wire). w.other) AreTwins n (rows_of rows) grid

-- a grid with one more node is a grid
pub grid-more : (n : ℕ) (rows more : List Row) → IsGrid n (rows_of rows)
    → WiresAreGrown (length rows) (rows_of rows) (rows_of more) → IsGrid (n + 1) (rows_of more)
grid-more n rows more grid grown =
    let now : WiresAreGrown n (rows_of rows) (rows_of more) =
    subst (λ k. WiresAreGrown k (rows_of rows) (rows_of more)) (rows-count n rows grid) grown
    in let all : IsGrid (suc n) (rows_of more) = record { olds = rows_of rows; grown = now; rest = grid }
    in let e : suc n ≡ n + 1 = omega arith
    in subst (λ k. IsGrid k (rows_of more)) e all

-- there is room for one more
pub grid-room : (n count : ℕ) (rows : List Row) → IsGrid n (rows_of rows) → n < count → count ≤ 32 → length rows < 32
grid-room n count rows grid more few =
    let so_far : length rows ≡ n = rows-count n rows grid in omega (arith, so_far, more, few)
