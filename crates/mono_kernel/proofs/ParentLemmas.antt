-- The parent of a process, found by its number.
use Rattle.std.proofs.Common.{◌≡◌, ◌∙◌, ℕ, Bool, true, false, cond, nat_eq, [], ◌∷◌, Option, Some, None, refl, sym, ap, Ordering, arith}
use Rattle.std.specs.declared.cmp.Ordering.TheVariants.{Less, Equal, Greater}
use Rattle.std.specs.Option.{option_map, option_map_or, option_and_then}
use Rattle.std.specs.Ordering.{nat_cmp}
use Rattle.std.specs.Map.{keys_of}
use Rattle.std.proofs.lemmas.Map.Keys.{sorted_tail}
use Rattle.number_maps.specs.Maps.{Numbered, get}
use Rattle.kernel_model.specs.Row.{lists}
use Rattle.waiting_model.specs.Marks.{Alive}
use Rattle.waiting_model.specs.Kernel.{Process, Living, Ended, Gone, Parent, alive_in, living_in, parent_if, parent_in}
use Rattle.number_maps.specs.Rising.{IsRising}
use Rattle.mono_kernel.specs.Table.{IsTable, lists_there, parent_number, parent_at, as_parent}
use Rattle.number_maps.proofs.Order.{cmp-same, equal-same, greater-differs}
use Rattle.number_maps.proofs.Changes.{less-none, get-rest}

-- a living process lists the child
abbrev pub Lists : Numbered Process → ℕ → ℕ → Type 0
Lists ps child q = (b : Alive) × (get ps q ≡ Some (Living b)) × (lists b.row.family child ≡ true)

get-first : (e : ℕ × Process) (es : Numbered Process) → get (e ∷ es) e.0 ≡ Some e.1
get-first e es = rw (cmp-same e.0)

-- a process that lists the child is its parent, and else the rest decides
passed : (child n : ℕ) (p : Process) (rest : Option Parent)
    → ((b : Alive) → p ≡ Living b → lists b.row.family child ≡ true → ⊥)
    → parent_if child n p rest ≡ rest
passed child n (Living alive) rest not_it = at (lists alive.row.family child) refl
  where
    at : (b : Bool) → lists alive.row.family child ≡ b → cond b (Some (record { pid = n; alive = alive })) rest ≡ rest
    at true h = absurd (not_it alive refl h)
    at false h = refl
passed child n (Ended ending) rest not_it = refl
passed child n Gone rest not_it = refl

pub parent-none : (ps : Numbered Process) (child : ℕ) → IsRising ps → ((q : ℕ) → Lists ps child q → ⊥)
    → parent_in child ps ≡ None
parent-none [] child rising none = refl
parent-none (e ∷ es) child rising none =
    passed child e.0 e.1 (parent_in child es) (λ b is it. none e.0 (b, get-first e es ∙ ap Some is, it))
    ∙ parent-none es child (sorted_tail nat_cmp e.0 (keys_of es) rising)
    (λ q l. none q (l.0, get-rest e es q (Living l.0) rising l.1, l.2))

found : (child p : ℕ) (a : Alive) (e : ℕ × Process) (es : Numbered Process) (o : Ordering) → nat_cmp p e.0 ≡ o
    → IsRising (e ∷ es)
    → get (e ∷ es) p ≡ Some (Living a) → lists a.row.family child ≡ true → ((q : ℕ) → Lists (e ∷ es) child q → q ≡ p)
    → (get es p ≡ Some (Living a) → parent_in child es ≡ Some (record { pid = p; alive = a }))
    → parent_if child e.0 e.1 (parent_in child es) ≡ Some (record { pid = p; alive = a })
found child p a e es Less h rising there it only rec =
    let none : get (e ∷ es) p ≡ None = less-none p e es rising h in absurd (cc)
found child p a e es Equal h rising there it only rec =
    let here : Some e.1 ≡ Some (Living a) = rw h at there
    in let is : e.1 ≡ Living a = cc
    in let num : e.0 ≡ p = sym (equal-same p e.0 h)
    in rw (is, it, num)
found child p a e es Greater h rising there it only rec =
    let later : get es p ≡ Some (Living a) = rw h at there
    in passed child e.0 e.1 (parent_in child es)
    (λ b is lists_it. greater-differs p e.0 h (only e.0 (b, get-first e es ∙ ap Some is, lists_it))) ∙ rec later

pub parent-one : (ps : Numbered Process) (child p : ℕ) (a : Alive) → IsRising ps → get ps p ≡ Some (Living a)
    → lists a.row.family child ≡ true
    → ((q : ℕ) → Lists ps child q → q ≡ p) → parent_in child ps ≡ Some (record { pid = p; alive = a })
parent-one [] child p a rising there it only = absurd (cc)
parent-one (e ∷ es) child p a rising there it only =
    found child p a e es (nat_cmp p e.0) refl rising there it only
    (λ later. parent-one es child p a (sorted_tail nat_cmp e.0 (keys_of es) rising) later it
    (λ q l. only q (l.0, get-rest e es q (Living l.0) rising l.1, l.2)))

-- The parent found by the note of parents.

living-get : (ps : Numbered Process) (q : ℕ) (b : Alive) → get ps q ≡ Some (Living b) → living_in ps q ≡ Some b
living-get ps q b there = ap (option_and_then alive_in) there

get-living : (ps : Numbered Process) (q : ℕ) (b : Alive) → living_in ps q ≡ Some b → get ps q ≡ Some (Living b)
get-living ps q b lives = at (get ps q) refl
  where
    at : (o : Option Process) → get ps q ≡ o → o ≡ Some (Living b)
    at None is = let none : None ≡ Some b = rw is at lives in absurd (cc)
    at (Some (Living a)) is = let same : Some a ≡ Some b = rw is at lives in cc
    at (Some (Ended ending)) is = let none : None ≡ Some b = rw is at lives in absurd (cc)
    at (Some Gone) is = let none : None ≡ Some b = rw is at lives in absurd (cc)

noted : (ps : Numbered Process) (parents : Numbered ℕ) (child q : ℕ) → IsTable ps parents → Lists ps child q
    → get parents child ≡ Some q
noted ps parents child q t l = t.parent q child l.0 (living-get ps q l.0 l.1) l.2

-- a child with no noted parent has none
pub parent_in-none : (ps : Numbered Process) (parents : Numbered ℕ) (child : ℕ) → IsTable ps parents
    → get parents child ≡ None
    → parent_in child ps ≡ None
parent_in-none ps parents child t none =
    parent-none ps child t.rising (λ q l. let some : get parents child ≡ Some q = noted ps parents child q t l in cc)

listing : (ps : Numbered Process) (p child : ℕ) → lists_there ps p child ≡ true → Lists ps child p
listing ps p child h = at (living_in ps p) refl h
  where
    at : (o : Option Alive) → living_in ps p ≡ o → option_map_or (λ a. lists a.row.family child) o false ≡ true
        → Lists ps child p
    at None is g = absurd (cc)
    at (Some a) is g = (a, get-living ps p a is, g)

-- a noted parent that lives and lists the child is its parent
pub parent_in-one : (ps : Numbered Process) (parents : Numbered ℕ) (child p : ℕ) → IsTable ps parents
    → get parents child ≡ Some p
    → lists_there ps p child ≡ true → parent_in child ps ≡ parent_at ps (Some p)
parent_in-one ps parents child p t here h =
    let l = listing ps p child h
    in parent-one ps child p l.0 t.rising l.1 l.2
    (λ q other. let there : get parents child ≡ Some q = noted ps parents child q t other in cc)
    ∙ sym (ap (option_map (as_parent p)) (living-get ps p l.0 l.1))

-- the same by number
pub parent_number-one : (ps : Numbered Process) (parents : Numbered ℕ) (child p : ℕ) → IsTable ps parents
    → get parents child ≡ Some p
    → lists_there ps p child ≡ true → parent_number ps child ≡ Some p
parent_number-one ps parents child p t here h =
    let l = listing ps p child h
    in rw (parent_in-one ps parents child p t here h)
    (ap (λ (o : Option Alive). option_map (λ x. x.pid) (option_map (as_parent p) o)) (living-get ps p l.0 l.1))

-- a noted parent that doesn't list the child isn't, and there is no other
pub parent_in-stale : (ps : Numbered Process) (parents : Numbered ℕ) (child p : ℕ) → IsTable ps parents
    → get parents child ≡ Some p
    → lists_there ps p child ≡ false → parent_in child ps ≡ None
parent_in-stale ps parents child p t here h = parent-none ps child t.rising (λ q l. no q l)
  where
    no : (q : ℕ) → Lists ps child q → ⊥
    no q l =
        let there : get parents child ≡ Some q = noted ps parents child q t l
        in let same : q ≡ p = cc
        in let yes : lists_there ps p child ≡ true = rw (← same, living-get ps q l.0 l.1) l.2
        in cc

-- a listed child isn't its own parent
pub apart-listed : (ps : Numbered Process) (parents : Numbered ℕ) (child p : ℕ) → IsTable ps parents
    → lists_there ps p child ≡ true
    → nat_eq p child ≡ false
apart-listed ps parents child p t h =
    let l = listing ps p child h in flip child p (t.listed p child l.0 (living-get ps p l.0 l.1) l.2).1
  where
    flip : (a b : ℕ) → nat_eq a b ≡ false → nat_eq b a ≡ false
    flip a b g = grind arith
