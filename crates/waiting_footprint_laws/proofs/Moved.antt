-- What one step on two kernels leaves of a process: it stays in both, it is the same in both, or its marks alone are
-- others, and the same in both.
use Rattle.std.proofs.Common.{◌≡◌, ◌∙◌, Bool, true, false, Option, Some, None, is_some, refl, ap, sym}
use Rattle.std.specs.Option.{option_map, option_and_then}
use Rattle.std.proofs.lemmas.Bool.{false≢true}
use Rattle.kernel_model.specs.Row.{Row}
use Rattle.waiting_model.specs.Marks.{Alive, Marks}
use Rattle.waiting_model.specs.Kernel.{Process, Living, Ended, Gone, alive_in, where_living}
use Rattle.waiting_footprint_laws.specs.Law.{bare}
use Rattle.footprint_laws.proofs.Change.{Change, Stays, Same}

-- the marks of a process that lives
abbrev pub marks_in : Option Process → Option Marks
marks_in o = option_map (λ a. a.marks) (option_and_then alive_in o)

-- all but its marks
abbrev pub bare_in : Option Process → Option Process
bare_in o = option_map bare o

pub data Moved (whole marked : Bool) (j k to_j to_k : Option Process) : Type 0 where
  Kept : to_j ≡ j → to_k ≡ k → Moved whole marked j k to_j to_k
  Equal : whole ≡ true → to_j ≡ to_k → Moved whole marked j k to_j to_k
  Marked : marked ≡ true → marks_in to_j ≡ marks_in to_k → bare_in to_j ≡ bare_in j → bare_in to_k ≡ bare_in k
      → Moved whole marked j k to_j to_k

-- a change of the whole process
pub moved-from_change : (w m : Bool) (j k to_j to_k : Option Process) → Change w j k to_j to_k
    → Moved w m j k to_j to_k
moved-from_change w m j k to_j to_k (Stays x y) = Kept x y
moved-from_change w m j k to_j to_k (Same t x) = Equal t x

-- the same processes in other words
pub moved-move : (w m : Bool) (j k a b c d : Option Process) → Moved w m j k a b → c ≡ a → d ≡ b → Moved w m j k c d
moved-move w m j k a b c d (Kept x y) p q = Kept (p ∙ x) (q ∙ y)
moved-move w m j k a b c d (Equal t x) p q = Equal t (p ∙ x ∙ sym q)
moved-move w m j k a b c d (Marked t x y z) p q =
    Marked t (ap marks_in p ∙ x ∙ ap marks_in (sym q)) (ap bare_in p ∙ y) (ap bare_in q ∙ z)

-- A process is its marks, and the rest.

alive-from : (a b : Alive) → a.row ≡ b.row → a.marks ≡ b.marks → a ≡ b
alive-from a b x y =
    let f : Row → Alive = λ row. record { row = row; marks = a.marks }
    in let g : Marks → Alive = λ marks. record { row = b.row; marks = marks }
    in ap f x ∙ ap g y

abbrev row_in : Option Process → Option Row
row_in o = option_map (λ a. a.row) (option_and_then alive_in o)

process-from : (o p : Option Process) → bare_in o ≡ bare_in p → marks_in o ≡ marks_in p → o ≡ p
process-from None None x y = refl
process-from None (Some p) x y = cc
process-from (Some o) None x y = cc
process-from (Some (Living a)) (Some (Living b)) x y =
    let rows : Some a.row ≡ Some b.row = ap row_in x
    in let row : a.row ≡ b.row = cc
    in let marks : a.marks ≡ b.marks = cc
    in ap (λ (c : Alive). Some (Living c)) (alive-from a b row marks)
process-from (Some (Living a)) (Some (Ended f)) x y = cc
process-from (Some (Living a)) (Some Gone) x y = cc
process-from (Some (Ended e)) (Some (Living b)) x y = cc
process-from (Some Gone) (Some (Living b)) x y = cc
process-from (Some (Ended e)) (Some (Ended f)) x y = x
process-from (Some (Ended e)) (Some Gone) x y = x
process-from (Some Gone) (Some (Ended f)) x y = x
process-from (Some Gone) (Some Gone) x y = refl

-- What agreed before agrees afterwards.

-- marks
pub moved-marks : (w m : Bool) (j k to_j to_k : Option Process) → Moved w m j k to_j to_k → marks_in j ≡ marks_in k
    → marks_in to_j ≡ marks_in to_k
moved-marks w m j k to_j to_k (Kept x y) h = ap marks_in x ∙ h ∙ ap marks_in (sym y)
moved-marks w m j k to_j to_k (Equal t x) h = ap marks_in x
moved-marks w m j k to_j to_k (Marked t x y z) h = x

-- a whole process
pub moved-whole : (w m : Bool) (j k to_j to_k : Option Process) → Moved w m j k to_j to_k → j ≡ k → to_j ≡ to_k
moved-whole w m j k to_j to_k (Kept x y) h = x ∙ h ∙ sym y
moved-whole w m j k to_j to_k (Equal t x) h = x
moved-whole w m j k to_j to_k (Marked t x y z) h = process-from to_j to_k (y ∙ ap bare_in h ∙ sym z) x

-- What isn't touched is as it was.

-- in the first kernel
pub moved-first : (w m : Bool) (j k to_j to_k : Option Process) → Moved w m j k to_j to_k → w ≡ false → m ≡ false
    → to_j ≡ j
moved-first w m j k to_j to_k (Kept x y) f g = x
moved-first w m j k to_j to_k (Equal t x) f g = absurd (false≢true (sym f ∙ t))
moved-first w m j k to_j to_k (Marked t x y z) f g = absurd (false≢true (sym g ∙ t))

-- and in the second
pub moved-second : (w m : Bool) (j k to_j to_k : Option Process) → Moved w m j k to_j to_k → w ≡ false → m ≡ false
    → to_k ≡ k
moved-second w m j k to_j to_k (Kept x y) f g = y
moved-second w m j k to_j to_k (Equal t x) f g = absurd (false≢true (sym f ∙ t))
moved-second w m j k to_j to_k (Marked t x y z) f g = absurd (false≢true (sym g ∙ t))

-- and all but the marks, in the first
pub moved-row_first : (w m : Bool) (j k to_j to_k : Option Process) → Moved w m j k to_j to_k → w ≡ false
    → bare_in to_j ≡ bare_in j
moved-row_first w m j k to_j to_k (Kept x y) f = ap bare_in x
moved-row_first w m j k to_j to_k (Equal t x) f = absurd (false≢true (sym f ∙ t))
moved-row_first w m j k to_j to_k (Marked t x y z) f = y

-- and in the second
pub moved-row_second : (w m : Bool) (j k to_j to_k : Option Process) → Moved w m j k to_j to_k → w ≡ false
    → bare_in to_k ≡ bare_in k
moved-row_second w m j k to_j to_k (Kept x y) f = ap bare_in y
moved-row_second w m j k to_j to_k (Equal t x) f = absurd (false≢true (sym f ∙ t))
moved-row_second w m j k to_j to_k (Marked t x y z) f = z

-- Who is doomed.

-- the process lives and is doomed
abbrev pub is_doomed : Process → Bool
is_doomed (Living a) = is_some a.row.signals.doom
is_doomed (Ended ending) = false
is_doomed Gone = false

-- the same of what a number leads to
abbrev pub doomed_in : Option Process → Bool
doomed_in None = false
doomed_in (Some p) = is_doomed p

doomed-bare : (o : Option Process) → doomed_in (bare_in o) ≡ doomed_in o
doomed-bare None = refl
doomed-bare (Some (Living a)) = refl
doomed-bare (Some (Ended ending)) = refl
doomed-bare (Some Gone) = refl

-- doomed in both, or in neither
pub moved-doomed : (w m : Bool) (j k to_j to_k : Option Process) → Moved w m j k to_j to_k → doomed_in j ≡ doomed_in k
    → doomed_in to_j ≡ doomed_in to_k
moved-doomed w m j k to_j to_k (Kept x y) h = ap doomed_in x ∙ h ∙ ap doomed_in (sym y)
moved-doomed w m j k to_j to_k (Equal t x) h = ap doomed_in x
moved-doomed w m j k to_j to_k (Marked t x y z) h =
    sym (doomed-bare to_j) ∙ ap doomed_in y ∙ doomed-bare j ∙ h ∙ sym (doomed-bare k) ∙ ap doomed_in (sym z)
    ∙ doomed-bare to_k

-- Other marks.

-- other marks, by a function of those that were
abbrev pub remark : (Marks → Marks) → Alive → Alive
remark f a = record a { marks = f a.marks }

-- the same of what a number leads to
abbrev pub remarked : (Marks → Marks) → Option Process → Option Process
remarked f o = option_map (where_living (remark f)) o

marks-remarked : (f : Marks → Marks) (o : Option Process) → marks_in (remarked f o) ≡ option_map f (marks_in o)
marks-remarked f None = refl
marks-remarked f (Some (Living a)) = refl
marks-remarked f (Some (Ended ending)) = refl
marks-remarked f (Some Gone) = refl

bare-remarked : (f : Marks → Marks) (o : Option Process) → bare_in (remarked f o) ≡ bare_in o
bare-remarked f None = refl
bare-remarked f (Some (Living a)) = refl
bare-remarked f (Some (Ended ending)) = refl
bare-remarked f (Some Gone) = refl

-- the same change of marks that were the same
pub moved-remark : (w m : Bool) (j k a b : Option Process) (f : Marks → Marks) → m ≡ true → marks_in j ≡ marks_in k
    → Moved w m j k a b → Moved w m j k (remarked f a) (remarked f b)
moved-remark w m j k a b f t h (Kept x y) =
    Marked t
    (marks-remarked f a ∙ ap (option_map f) (ap marks_in x ∙ h ∙ ap marks_in (sym y)) ∙ sym (marks-remarked f b))
    (bare-remarked f a ∙ ap bare_in x) (bare-remarked f b ∙ ap bare_in y)
moved-remark w m j k a b f t h (Equal s x) = Equal s (ap (remarked f) x)
moved-remark w m j k a b f t h (Marked s x y z) =
    Marked t (marks-remarked f a ∙ ap (option_map f) x ∙ sym (marks-remarked f b)) (bare-remarked f a ∙ y)
    (bare-remarked f b ∙ z)
