-- Rows of nodes that were added one after the other: how many there are, whom they lead to, and rows of other things.
use Rattle.std.proofs.Common.{◌≡◌, ◌≢◌, ℕ, zero, suc, ◌+◌, ◌<◌, ◌≤◌, Bool, true, false, cond, not, nat_eq, List, [], ◌∷◌, ◌++◌, length, map, refl, ap, sym, subst, ◌∙◌, arith}
use Rattle.std.specs.List.{AllByRecursion, filter}
use Rattle.std.proofs.lemmas.Bool.{eq-eqb, ne_eqb}
use Rattle.std.proofs.lemmas.List.{length-append}
use Rattle.stamp_merge.proofs.Filters.{all-map, filter-no, filter-yes}
use Rattle.log_laws.proofs.Lists.{append-all}
use Rattle.world_model.specs.World.{numbers}
use Rattle.pico_run.specs.Numbered.{AllFrom}
use Rattle.pico_run.specs.Grid.{Corner, IsCorner, IsGrown, IsGrownFrom, IsMesh, with_theirs}
use Rattle.pico_run.proofs.Lists.{HasLast, all-from-more, has-last, length-map, map-more, none-mapped}

-- ---- how many rows there are

grown-corners : {A : Type 0} (other : A → ℕ) (R : A → A → Type 0) (n : ℕ) (olds rows : List (List A))
    (g : IsGrown other R n olds rows) → length g.corners ≡ length olds
grown-corners {A} other R n olds rows g =
    sym (length-map (λ (c : Corner A). c.old) g.corners) ∙ sym (ap length g.olds_are)

pub grown-length : {A : Type 0} (other : A → ℕ) (R : A → A → Type 0) (n : ℕ) (olds rows : List (List A))
    → IsGrown other R n olds rows → length rows ≡ length olds + 1
grown-length {A} other R n olds rows g =
    ap length g.rows_are
    ∙ length-append (map with_theirs g.corners) (map (λ (c : Corner A). c.mine) g.corners ∷ [])
    ∙ ap (λ k. k + 1) (length-map with_theirs g.corners ∙ grown-corners other R n olds rows g)

-- rows of so many nodes are so many
pub mesh-length : {A : Type 0} (other : A → ℕ) (R : A → A → Type 0) (n : ℕ) (rows : List (List A))
    → IsMesh other R n rows → length rows ≡ n
mesh-length other R zero rows h = ap length h
mesh-length other R (suc n) rows h =
    let few : length h.olds ≡ n = mesh-length other R n h.olds h.rest
    in let more : length rows ≡ length h.olds + 1 = grown-length other R n h.olds rows h.grown
    in omega (arith, few, more)

-- and so are the corners of the last node
pub corners-length : {A : Type 0} (other : A → ℕ) (R : A → A → Type 0) (n : ℕ) (rows : List (List A))
    (h : IsGrownFrom other R n rows (λ olds. IsMesh other R n olds)) → length h.grown.corners ≡ n
corners-length other R n rows h =
    grown-corners other R n h.olds rows h.grown ∙ mesh-length other R n h.olds h.rest

-- ---- the rows of what was made of others

-- corners of which these are made
record HasCornersBack {A B : Type 0} (f : A → B) (other : B → ℕ) (S : B → B → Type 0) (further first : ℕ)
    (rows : List (List A)) (row : List A) (made : List (Corner B)) : Type 0 where
  pub corners : List (Corner A)
  pub rows_are : rows ≡ map with_theirs corners
  pub row_is : row ≡ map (λ c. c.mine) corners
  pub olds_are : map (λ (c : Corner B). c.old) made ≡ map (map f) (map (λ c. c.old) corners)
  pub are : AllFrom (IsCorner (λ a. other (f a)) (λ a b. S (f a) (f b)) further) first corners

corners-back : {A B : Type 0} (f : A → B) (other : B → ℕ) (S : B → B → Type 0) (further first : ℕ)
    (rows : List (List A)) (row : List A) (made : List (Corner B)) → map (map f) rows ≡ map with_theirs made
    → map f row ≡ map (λ (c : Corner B). c.mine) made → AllFrom (IsCorner other S further) first made
    → HasCornersBack f other S further first rows row made
corners-back f other S further first rows row [] of_rows of_row are =
    record {
      corners = [];
      rows_are = none-mapped (map f) rows of_rows;
      row_is = none-mapped f row of_row;
      olds_are = refl;
      are = tt;
    }
corners-back f other S further first [] row (c ∷ made) of_rows of_row are = absurd (let f : ⊥ = cc in f)
corners-back f other S further first (r ∷ rows) [] (c ∷ made) of_rows of_row are = absurd (let f : ⊥ = cc in f)
corners-back {A} {B} f other S further first (r ∷ rows) (a ∷ row) (c ∷ made) of_rows of_row are =
    let one_row : map f r ≡ c.old ++ c.theirs ∷ [] = cc
    in let more_rows : map (map f) rows ≡ map with_theirs made = cc
    in let one : f a ≡ c.mine = cc
    in let more : map f row ≡ map (λ (d : Corner B). d.mine) made = cc
    in let h : HasLast f r c.old c.theirs = has-last f r c.old c.theirs one_row
    in let rest : HasCornersBack f other S further (first + 1) rows row made =
    corners-back f other S further (first + 1) rows row made more_rows more are.1
    in let is : IsCorner other S further first c = are.0
    in let corner : Corner A = record { old = h.front; mine = a; theirs = h.last }
    in record {
      corners = corner ∷ rest.corners;
      rows_are = same-parts h.is rest.rows_are;
      row_is = ap (λ (xs : List A). a ∷ xs) rest.row_is;
      olds_are = same-parts (sym h.front_is) rest.olds_are;
      are = (
        record {
          to_them = ap other one ∙ is.to_them;
          to_me = ap other h.last_is ∙ is.to_me;
          both = subst (λ (x : B). S x (f h.last)) (sym one) (subst (λ (y : B). S c.mine y) (sym h.last_is) is.both);
        },
        rest.are,
      );
    }
  where
    same-parts : {X : Type 0} {x y : X} {xs ys : List X} → x ≡ y → xs ≡ ys → x ∷ xs ≡ y ∷ ys
    same-parts {X} {y = y} {xs = xs} e es = ap (λ (x : X). x ∷ xs) e ∙ ap (λ (xs : List X). y ∷ xs) es

-- where the images of rows are so, the rows are
pub mesh-back : {A B : Type 0} (f : A → B) (other : B → ℕ) (S : B → B → Type 0) (n : ℕ) (rows : List (List A))
    → IsMesh other S n (map (map f) rows) → IsMesh (λ a. other (f a)) (λ a b. S (f a) (f b)) n rows
mesh-back f other S zero rows h = none-mapped (map f) rows h
mesh-back {A} {B} f other S (suc n) rows h =
    let g : IsGrown other S n h.olds (map (map f) rows) = h.grown
    in let u : HasLast (map f) rows (map with_theirs g.corners) (map (λ (c : Corner B). c.mine) g.corners) =
    has-last (map f) rows (map with_theirs g.corners) (map (λ (c : Corner B). c.mine) g.corners) g.rows_are
    in let b : HasCornersBack f other S (n + 1) 1 u.front u.last g.corners =
    corners-back f other S (n + 1) 1 u.front u.last g.corners u.front_is u.last_is g.are
    in record {
      olds = map (λ (c : Corner A). c.old) b.corners;
      grown = record {
        corners = b.corners;
        olds_are = refl;
        rows_are =
            u.is
            ∙ ap (λ (xs : List (List A)). xs ++ u.last ∷ []) b.rows_are
            ∙ ap (λ (x : List A). map with_theirs b.corners ++ x ∷ []) b.row_is;
        are = b.are;
      };
      rest =
          mesh-back f other S n (map (λ (c : Corner A). c.old) b.corners)
          (subst (λ (xs : List (List B)). IsMesh other S n xs) (g.olds_are ∙ b.olds_are) h.rest);
    }

-- ---- whom the rows lead to

-- all nodes but this one, of so many
abbrev pub others_to : ℕ → ℕ → List ℕ
others_to n k = filter (λ q. not (nat_eq q k)) (numbers 1 n)

numbers-more : (first count : ℕ) → numbers first (suc count) ≡ numbers first count ++ (first + count) ∷ []
numbers-more first zero = let e : first ≡ first + 0 = omega arith in ap (λ n. n ∷ []) e
numbers-more first (suc count) =
    let e : (first + 1) + count ≡ first + suc count = omega arith
    in ap (λ (ns : List ℕ). first ∷ ns)
    (numbers-more (first + 1) count ∙ ap (λ n. numbers (first + 1) count ++ n ∷ []) e)

numbers-below : (first count high : ℕ) → first + count ≤ high → AllByRecursion (λ n. n < high) (numbers first count)
numbers-below first zero high le = tt
numbers-below first (suc count) high le =
    (omega (arith, le), numbers-below (first + 1) count high (omega (arith, le)))

filter-more : (k : ℕ) (ns : List ℕ) (n : ℕ) → n ≢ k
    → filter (λ q. not (nat_eq q k)) (ns ++ n ∷ []) ≡ filter (λ q. not (nat_eq q k)) ns ++ n ∷ []
filter-more k [] n d = filter-yes (λ q. not (nat_eq q k)) n [] (ap not (ne_eqb n k d))
filter-more k (m ∷ ns) n d = ap-if (not (nat_eq m k)) m _ _ n (filter-more k ns n d)
  where
    ap-if : (b : Bool) (m : ℕ) (ks bs : List ℕ) (n : ℕ) → ks ≡ bs ++ n ∷ []
        → cond b (m ∷ ks) ks ≡ cond b (m ∷ bs) bs ++ n ∷ []
    ap-if true m ks bs n e = ap (λ (xs : List ℕ). m ∷ xs) e
    ap-if false m ks bs n e = e

others-more : (n k : ℕ) → k ≤ n → others_to (suc n) k ≡ others_to n k ++ (n + 1) ∷ []
others-more n k le =
    let e : 1 + n ≡ n + 1 = omega arith
    in ap (λ (ns : List ℕ). filter (λ q. not (nat_eq q k)) ns)
    (numbers-more 1 n ∙ ap (λ m. numbers 1 n ++ m ∷ []) e)
    ∙ filter-more k (numbers 1 n) (n + 1) (λ same. absurd (let f : ⊥ = omega (arith, le, same) in f))

filter-without : (k : ℕ) (ns : List ℕ) → AllByRecursion (λ n. n < k) ns
    → filter (λ q. not (nat_eq q k)) (ns ++ k ∷ []) ≡ ns
filter-without k [] all = filter-no (λ q. not (nat_eq q k)) k [] (ap not (eq-eqb k k refl))
filter-without k (n ∷ ns) all =
    let low : n < k = all.0
    in let apart : n ≢ k = λ same. absurd (let f : ⊥ = omega (arith, low, same) in f)
    in filter-yes (λ q. not (nat_eq q k)) n (ns ++ k ∷ []) (ap not (ne_eqb n k apart))
    ∙ ap (λ (xs : List ℕ). n ∷ xs) (filter-without k ns all.1)

others-last : (n : ℕ) → others_to (suc n) (1 + n) ≡ numbers 1 n
others-last n =
    ap (λ (ns : List ℕ). filter (λ q. not (nat_eq q (1 + n))) ns) (numbers-more 1 n)
    ∙ filter-without (1 + n) (numbers 1 n) (numbers-below 1 n (1 + n) (omega arith))

others-of-mine : {A : Type 0} (other : A → ℕ) (R : A → A → Type 0) (further first : ℕ) (cs : List (Corner A))
    → AllFrom (IsCorner other R further) first cs
    → map other (map (λ (c : Corner A). c.mine) cs) ≡ numbers first (length cs)
others-of-mine other R further first [] are = refl
others-of-mine {A} other R further first (c ∷ cs) are =
    let is : IsCorner other R further first c = are.0
    in ap (λ n. n ∷ map other (map (λ (d : Corner A). d.mine) cs)) is.to_them
    ∙ ap (λ (ns : List ℕ). first ∷ ns) (others-of-mine other R further (first + 1) cs are.1)

-- the row of node k leads to all nodes but k
abbrev pub LeadsToOthers : {A : Type 0} → (A → ℕ) → ℕ → ℕ → List A → Type 0
LeadsToOthers other n k row = map other row ≡ others_to n k

others-of-theirs : {A : Type 0} (other : A → ℕ) (R : A → A → Type 0) (n first : ℕ) (cs : List (Corner A))
    → first + length cs ≤ n + 1 → AllFrom (IsCorner other R (n + 1)) first cs
    → AllFrom (LeadsToOthers other n) first (map (λ (c : Corner A). c.old) cs)
    → AllFrom (LeadsToOthers other (suc n)) first (map with_theirs cs)
others-of-theirs other R n first [] le are olds = tt
others-of-theirs other R n first (c ∷ cs) le are olds =
    let is : IsCorner other R (n + 1) first c = are.0
    in (
      map-more other c.old c.theirs
          ∙ ap (λ (ns : List ℕ). ns ++ other c.theirs ∷ []) olds.0
          ∙ ap (λ m. others_to n first ++ m ∷ []) is.to_me
          ∙ sym (others-more n first (omega (arith, le))),
      others-of-theirs other R n (first + 1) cs (omega (arith, le)) are.1 olds.1,
    )

-- each row leads to all other nodes
pub mesh-others : {A : Type 0} (other : A → ℕ) (R : A → A → Type 0) (n : ℕ) (rows : List (List A))
    → IsMesh other R n rows → AllFrom (LeadsToOthers other n) 1 rows
mesh-others {A} other R zero rows h =
    subst (λ (xs : List (List A)). AllFrom (LeadsToOthers other 0) 1 xs) (sym h) tt
mesh-others {A} other R (suc n) rows h =
    let g : IsGrown other R n h.olds rows = h.grown
    in let few : length g.corners ≡ n = corners-length other R n rows h
    in let olds : AllFrom (LeadsToOthers other n) 1 (map (λ (c : Corner A). c.old) g.corners) =
    subst (λ (xs : List (List A)). AllFrom (LeadsToOthers other n) 1 xs) g.olds_are
    (mesh-others other R n h.olds h.rest)
    in let row : List A = map (λ (c : Corner A). c.mine) g.corners
    in let at : n ≡ length (map with_theirs g.corners) = sym (length-map with_theirs g.corners ∙ few)
    in let last : map other row ≡ others_to (suc n) (1 + n) =
    others-of-mine other R (n + 1) 1 g.corners g.are
    ∙ ap (λ m. numbers 1 m) few
    ∙ sym (others-last n)
    in subst (λ (xs : List (List A)). AllFrom (LeadsToOthers other (suc n)) 1 xs) (sym g.rows_are)
    (all-from-more (LeadsToOthers other (suc n)) 1 (map with_theirs g.corners) row
    (others-of-theirs other R n 1 g.corners (omega (arith, few)) g.are olds)
    (subst (λ m. map other row ≡ others_to (suc n) (1 + m)) at last))

-- ---- no row leads past the nodes

-- the row leads to nodes up to this one
abbrev pub IsBelow : {A : Type 0} → (A → ℕ) → ℕ → List A → Type 0
IsBelow other n row = AllByRecursion (λ a. other a ≤ n) row

mine-below : {A : Type 0} (other : A → ℕ) (R : A → A → Type 0) (n first : ℕ) (cs : List (Corner A))
    → first + length cs ≤ n + 1 → AllFrom (IsCorner other R (n + 1)) first cs
    → AllByRecursion (λ a. other a ≤ suc n) (map (λ (c : Corner A). c.mine) cs)
mine-below other R n first [] le are = tt
mine-below other R n first (c ∷ cs) le are =
    let is : IsCorner other R (n + 1) first c = are.0
    in let own : other c.mine ≡ first = is.to_them
    in (omega (arith, own, le), mine-below other R n (first + 1) cs (omega (arith, le)) are.1)

theirs-below : {A : Type 0} (other : A → ℕ) (R : A → A → Type 0) (n first : ℕ) (cs : List (Corner A))
    → AllFrom (IsCorner other R (n + 1)) first cs
    → AllByRecursion (IsBelow other n) (map (λ (c : Corner A). c.old) cs)
    → AllByRecursion (IsBelow other (suc n)) (map with_theirs cs)
theirs-below other R n first [] are olds = tt
theirs-below {A} other R n first (c ∷ cs) are olds =
    let is : IsCorner other R (n + 1) first c = are.0
    in let own : other c.theirs ≡ n + 1 = is.to_me
    in let last : other c.theirs ≤ suc n = omega (arith, own)
    in (
      append-all (λ a. other a ≤ suc n) c.old (c.theirs ∷ [])
          (all-map (λ (a : A) (low : other a ≤ n). let more : other a ≤ suc n =
          omega (arith, low) in more) c.old olds.0)
          (last, tt),
      theirs-below other R n (first + 1) cs are.1 olds.1,
    )

-- and no row leads beyond the last node
pub mesh-below : {A : Type 0} (other : A → ℕ) (R : A → A → Type 0) (n : ℕ) (rows : List (List A))
    → IsMesh other R n rows → AllByRecursion (IsBelow other n) rows
mesh-below {A} other R zero rows h = subst (λ (xs : List (List A)). AllByRecursion (IsBelow other 0) xs) (sym h) tt
mesh-below {A} other R (suc n) rows h =
    let g : IsGrown other R n h.olds rows = h.grown
    in let few : length g.corners ≡ n = corners-length other R n rows h
    in let olds : AllByRecursion (IsBelow other n) (map (λ (c : Corner A). c.old) g.corners) =
    subst (λ (xs : List (List A)). AllByRecursion (IsBelow other n) xs) g.olds_are (mesh-below other R n h.olds h.rest)
    in subst (λ (xs : List (List A)). AllByRecursion (IsBelow other (suc n)) xs) (sym g.rows_are)
    (append-all (IsBelow other (suc n)) (map with_theirs g.corners) (map (λ (c : Corner A). c.mine) g.corners ∷ [])
    (theirs-below other R n 1 g.corners g.are olds)
    (mine-below other R n 1 g.corners (omega (arith, few)) g.are, tt))
