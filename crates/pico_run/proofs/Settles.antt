-- The ends of all streams, put together row after row.
use Rattle.std.proofs.Common.{◌≡◌, ℕ, zero, suc, ◌+◌, ◌<◌, List, [], ◌∷◌, ◌++◌, length, map, refl, ap, sym, subst, ◌∙◌, arith, append_assoc}
use Rattle.std.proofs.lemmas.List.{append-nil, length-append}
use Rattle.node_lines.specs.declared.end.End.{End}
use Rattle.pico_run.specs.Numbered.{AllFrom}
use Rattle.pico_run.specs.Grid.{Corner, IsCorner, IsGrown, with_theirs}
use Rattle.pico_run.specs.Joined.{AreSettled, AreSettledRows, AreTwinEnds, AreTwinRows, end_other}
use Rattle.pico_run.specs.Settling.{AreTwinsAtEnds, HasCorners, IsSettledRow, Settles}
use Rattle.pico_run.proofs.Lists.{all-from-more, length-map, map-more, none-mapped, same-front}
use Rattle.pico_run.proofs.Meshes.{mesh-length}

abbrev TwinCorner : ℕ → ℕ → Corner End → Type 0
TwinCorner further k c = IsCorner end_other AreTwinEnds further k c

abbrev SettledCorner : ℕ → ℕ → Corner End → Type 0
SettledCorner further k c = IsCorner end_other AreSettled further k c

-- ---- one row

-- some corners are settled, and these ends and rows are left
pub record IsSettling (further : ℕ) (corners : List (Corner End)) (olds : List (List End)) (row : List End)
    (rows : List (List End)) : Type 0 where
  pub done : List (Corner End)
  pub left : List (Corner End)
  pub all : corners ≡ done ++ left
  pub olds_are : olds ≡ map (λ c. c.old) done
  pub rows_are : rows ≡ map with_theirs left
  pub row_is : row ≡ map (λ c. c.mine) left
  pub settled : AllFrom (SettledCorner further) 1 done
  pub twins : AllFrom (TwinCorner further) (1 + length done) left

pub settling-start : (further : ℕ) (corners : List (Corner End)) (olds : List (List End)) (row row_left : List End)
    (rows rows_left : List (List End)) → HasCorners further rows row corners → olds ≡ [] → row_left ≡ row
    → rows_left ≡ rows → IsSettling further corners olds row_left rows_left
settling-start further corners olds row row_left rows rows_left h none same_row same_rows =
    record {
      done = [];
      left = corners;
      all = refl;
      olds_are = none;
      rows_are = same_rows ∙ h.rows_are;
      row_is = same_row ∙ h.row_is;
      settled = tt;
      twins = h.twins;
    }

-- the next corner, where a row is left
pub record IsNextCorner (further : ℕ) (corners : List (Corner End)) (olds : List (List End)) (row : List End)
    (other : List End) (rows : List (List End)) : Type 0 where
  pub corner : Corner End
  pub left : List (Corner End)
  pub done : List (Corner End)
  pub all : corners ≡ done ++ corner ∷ left
  pub olds_are : olds ≡ map (λ c. c.old) done
  pub other_is : other ≡ with_theirs corner
  pub rows_are : rows ≡ map with_theirs left
  pub row_is : row ≡ corner.mine ∷ map (λ c. c.mine) left
  pub settled : AllFrom (SettledCorner further) 1 done
  pub twins : TwinCorner further (1 + length done) corner
  pub rest : AllFrom (TwinCorner further) (1 + length done + 1) left

-- the next row has a corner with this one
pub next-corner : (further : ℕ) (corners : List (Corner End)) (olds : List (List End)) (row : List End)
    (other : List End) (rows_left rows : List (List End)) → IsSettling further corners olds row rows_left
    → rows_left ≡ other ∷ rows → IsNextCorner further corners olds row other rows
next-corner further corners olds row other rows_left rows h is =
    found h.left h.all h.row_is h.twins (sym is ∙ h.rows_are)
  where
    found : (left : List (Corner End)) → corners ≡ h.done ++ left → row ≡ map (λ (c : Corner End). c.mine) left
        → AllFrom (TwinCorner further) (1 + length h.done) left → other ∷ rows ≡ map with_theirs left
        → IsNextCorner further corners olds row other rows
    found [] all row_is twins e = absurd (let f : ⊥ = cc in f)
    found (c ∷ left) all row_is twins e =
        record {
          corner = c;
          left = left;
          done = h.done;
          all = all;
          olds_are = h.olds_are;
          other_is = (let own : other ≡ with_theirs c = cc in own);
          rows_are = (let rest : rows ≡ map with_theirs left = cc in rest);
          row_is = row_is;
          settled = h.settled;
          twins = twins.0;
          rest = twins.1;
        }

-- an end is left of the row, and one of the other row
pub next-end-is-there : (further : ℕ) (corners : List (Corner End)) (olds : List (List End)) (row : List End)
    (other : List End) (rows : List (List End)) → IsNextCorner further corners olds row other rows → row ≡ [] → ⊥
next-end-is-there further corners olds row other rows n none =
    let both : n.corner.mine ∷ map (λ (c : Corner End). c.mine) n.left ≡ [] = sym n.row_is ∙ none in cc

-- that row isn't empty
pub last-end-is-there : (further : ℕ) (corners : List (Corner End)) (olds : List (List End)) (row : List End)
    (other : List End) (rows : List (List End)) → IsNextCorner further corners olds row other rows → other ≡ [] → ⊥
last-end-is-there further corners olds row other rows n none =
    let long : length other ≡ length n.corner.old + 1 =
    ap length n.other_is ∙ length-append n.corner.old (n.corner.theirs ∷ [])
    in let short : length other ≡ 0 = ap length none
    in omega (arith, long, short)

-- what was taken of both rows are the next corner's parts
record AreItsParts (corner : Corner End) (left : List (Corner End)) (mine theirs : End) (row_left other_left : List End)
    : Type 0 where
  pub mine_is : mine ≡ corner.mine
  pub row_is : row_left ≡ map (λ c. c.mine) left
  pub theirs_is : theirs ≡ corner.theirs
  pub old_is : other_left ≡ corner.old

its-parts : (further : ℕ) (corners : List (Corner End)) (olds : List (List End)) (row row_left : List End)
    (other other_left : List End) (rows : List (List End)) (mine theirs : End)
    (n : IsNextCorner further corners olds row other rows) → row ≡ mine ∷ row_left
    → other ≡ other_left ++ theirs ∷ [] → AreItsParts n.corner n.left mine theirs row_left other_left
its-parts further corners olds row row_left other other_left rows mine theirs n is_row is_other =
    let heads : mine ∷ row_left ≡ n.corner.mine ∷ map (λ (c : Corner End). c.mine) n.left = sym is_row ∙ n.row_is
    in let same_mine : mine ≡ n.corner.mine = cc
    in let same_row : row_left ≡ map (λ (c : Corner End). c.mine) n.left = cc
    in let ends : (other_left ≡ n.corner.old) × (theirs ≡ n.corner.theirs) =
    same-front other_left n.corner.old theirs n.corner.theirs (sym is_other ∙ n.other_is)
    in record { mine_is = same_mine; row_is = same_row; theirs_is = ends.1; old_is = ends.0 }

-- they are ends of the same streams
pub ends-are-twins : (further : ℕ) (corners : List (Corner End)) (olds : List (List End)) (row row_left : List End)
    (other other_left : List End) (rows : List (List End)) (mine theirs : End)
    → IsNextCorner further corners olds row other rows → row ≡ mine ∷ row_left → other ≡ other_left ++ theirs ∷ []
    → AreTwinEnds mine theirs
ends-are-twins further corners olds row row_left other other_left rows mine theirs n is_row is_other =
    let parts : AreItsParts n.corner n.left mine theirs row_left other_left =
    its-parts further corners olds row row_left other other_left rows mine theirs n is_row is_other
    in subst (λ (e : End). AreTwinEnds e theirs) (sym parts.mine_is)
    (subst (λ (e : End). AreTwinEnds n.corner.mine e) (sym parts.theirs_is) n.twins.both)

-- the streams with one more node are settled
pub settling-more : (further : ℕ) (corners : List (Corner End)) (olds more : List (List End)) (row row_left : List End)
    (other other_left : List End) (rows : List (List End)) (mine theirs : End)
    → IsNextCorner further corners olds row other rows → row ≡ mine ∷ row_left → other ≡ other_left ++ theirs ∷ []
    → AreSettled mine theirs → more ≡ olds ++ other_left ∷ [] → IsSettling further corners more row_left rows
settling-more further corners olds more row row_left other other_left rows mine theirs n is_row is_other s with_more =
    let parts : AreItsParts n.corner n.left mine theirs row_left other_left =
    its-parts further corners olds row row_left other other_left rows mine theirs n is_row is_other
    in let now : AreSettled n.corner.mine n.corner.theirs =
    subst (λ (e : End). AreSettled n.corner.mine e) parts.theirs_is
    (subst (λ (e : End). AreSettled e theirs) parts.mine_is s)
    in let longer : length (n.done ++ n.corner ∷ []) ≡ length n.done + 1 = length-append n.done (n.corner ∷ [])
    in let at : 1 + length n.done + 1 ≡ 1 + length (n.done ++ n.corner ∷ []) = omega (arith, longer)
    in let corner : SettledCorner further (1 + length n.done) n.corner =
    record { to_them = n.twins.to_them; to_me = n.twins.to_me; both = now }
    in record {
      done = n.done ++ n.corner ∷ [];
      left = n.left;
      all = n.all ∙ sym (append_assoc n.done (n.corner ∷ []) n.left);
      olds_are =
          with_more
          ∙ ap (λ (xs : List (List End)). xs ++ other_left ∷ []) n.olds_are
          ∙ ap (λ (x : List End). map (λ (c : Corner End). c.old) n.done ++ x ∷ []) parts.old_is
          ∙ sym (map-more (λ (c : Corner End). c.old) n.done n.corner);
      rows_are = n.rows_are;
      row_is = parts.row_is;
      settled = all-from-more (SettledCorner further) 1 n.done n.corner n.settled corner;
      twins =
          subst (λ k. AllFrom (TwinCorner further) k n.left) at n.rest;
    }

-- those with all nodes before it are
pub settling-end : (further : ℕ) (corners : List (Corner End)) (olds : List (List End)) (row : List End)
    (rows : List (List End)) → IsSettling further corners olds row rows → rows ≡ []
    → IsSettledRow further corners olds
settling-end further corners olds row rows h none =
    let left_none : h.left ≡ [] = none-mapped with_theirs h.left (sym h.rows_are ∙ none)
    in let all : corners ≡ h.done = h.all ∙ ap (λ (cs : List (Corner End)). h.done ++ cs) left_none ∙ append-nil h.done
    in record {
      olds_are = h.olds_are ∙ ap (λ (cs : List (Corner End)). map (λ (c : Corner End). c.old) cs) (sym all);
      settled = subst (λ (cs : List (Corner End)). AllFrom (SettledCorner further) 1 cs) (sym all) h.settled;
    }

-- ---- all rows

-- these rows are left, and where they are settled all are
pub record AreSettling (all : ℕ) (rows left : List (List End)) : Type 0 where
  pub count : ℕ
  pub twins : AreTwinRows count left
  pub then : AreSettledRows count left → AreSettledRows all rows

-- the last of the rows that are left
pub record IsLastRow (all : ℕ) (rows left : List (List End)) (row : List End) : Type 0 where
  pub count : ℕ
  pub corners : List (Corner End)
  pub has : HasCorners (count + 1) left row corners
  pub olds : AreTwinRows count (map (λ c. c.old) corners)
  pub then : AreSettledRows (suc count) (left ++ row ∷ []) → AreSettledRows all rows

-- the last row that is left has its twins at the ends of the others
pub last-row : (all : ℕ) (rows before left : List (List End)) (row : List End) → AreSettling all rows before
    → before ≡ left ++ row ∷ [] → IsLastRow all rows left row
last-row all rows before left row h is =
    found h.count (subst (λ (xs : List (List End)). AreTwinRows h.count xs) is h.twins)
    (λ s. h.then (subst (λ (xs : List (List End)). AreSettledRows h.count xs) (sym is) s))
  where
    found : (count : ℕ) → AreTwinRows count (left ++ row ∷ [])
        → (AreSettledRows count (left ++ row ∷ []) → AreSettledRows all rows) → IsLastRow all rows left row
    found zero twins then = absurd (more-than-none left row twins)
      where
        more-than-none : (xs : List (List End)) (x : List End) → xs ++ x ∷ [] ≡ [] → ⊥
        more-than-none [] x e = cc
        more-than-none (y ∷ xs) x e = cc
    found (suc count) twins then =
        let g : IsGrown end_other AreTwinEnds count twins.olds (left ++ row ∷ []) = twins.grown
        in let ends : (left ≡ map with_theirs g.corners) × (row ≡ map (λ (c : Corner End). c.mine) g.corners) =
        same-front left (map with_theirs g.corners) row (map (λ (c : Corner End). c.mine) g.corners) g.rows_are
        in record {
          count = count;
          corners = g.corners;
          has = record { rows_are = ends.0; row_is = ends.1; twins = g.are };
          olds = subst (λ (xs : List (List End)). AreTwinRows count xs) g.olds_are twins.rest;
          then = then;
        }

-- so its streams may be settled
pub twins-at-ends : (all : ℕ) (rows left : List (List End)) (row : List End) → IsLastRow all rows left row
    → AreTwinsAtEnds left row
twins-at-ends all rows left row h = record { further = h.count + 1; corners = h.corners; has = h.has }

-- and then one row less is left
pub row-is-settled : (all : ℕ) (rows left : List (List End)) (row : List End) (olds : List (List End))
    → IsLastRow all rows left row → Settles left row olds → AreSettling all rows olds
row-is-settled all rows left row olds h settles =
    let s : IsSettledRow (h.count + 1) h.corners olds = settles (h.count + 1) h.corners h.has
    in record {
      count = h.count;
      twins = subst (λ (xs : List (List End)). AreTwinRows h.count xs) (sym s.olds_are) h.olds;
      then = λ rest. h.then (record {
        olds = olds;
        grown = record {
          corners = h.corners;
          olds_are = s.olds_are;
          rows_are =
              ap (λ (xs : List (List End)). xs ++ row ∷ []) h.has.rows_are
              ∙ ap (λ (x : List End). map with_theirs h.corners ++ x ∷ []) h.has.row_is;
          are = s.settled;
        };
        rest = rest;
      });
    }

-- one row less is left
pub row-fewer : (all : ℕ) (rows left : List (List End)) (row : List End) (olds : List (List End))
    → IsLastRow all rows left row → Settles left row olds → length olds ≡ length left
row-fewer all rows left row olds h settles =
    let s : IsSettledRow (h.count + 1) h.corners olds = settles (h.count + 1) h.corners h.has
    in ap length s.olds_are
    ∙ length-map (λ (c : Corner End). c.old) h.corners
    ∙ sym (length-map with_theirs h.corners)
    ∙ sym (ap length h.has.rows_are)

-- which is fewer than before
pub row-is-smaller : (all : ℕ) (rows before left : List (List End)) (row : List End) (olds : List (List End))
    → AreSettling all rows before → before ≡ left ++ row ∷ [] → Settles left row olds → length olds < length before
row-is-smaller all rows before left row olds h is settles =
    let fewer : length olds ≡ length left =
    row-fewer all rows left row olds (last-row all rows before left row h is) settles
    in let longer : length before ≡ length left + 1 = ap length is ∙ length-append left (row ∷ [])
    in omega (arith, fewer, longer)

-- where no row is left, all streams are settled
pub settling-all-end : (all : ℕ) (rows left : List (List End)) → AreSettling all rows left → left ≡ []
    → AreSettledRows all rows
settling-all-end all rows left h none = h.then (ended h.count h.twins)
  where
    ended : (count : ℕ) → AreTwinRows count left → AreSettledRows count left
    ended zero twins = none
    ended (suc count) twins =
        let more : length left ≡ suc count = mesh-length end_other AreTwinEnds (suc count) left twins
        in let few : length left ≡ 0 = ap length none in absurd (let f : ⊥ = omega (arith, more, few) in f)
