-- A loop over lines, of which a front is done.
use Rattle.std.proofs.Common.{◌≡◌, ℕ, zero, suc, ◌+◌, ◌<◌, Bool, true, false, ◌||◌, List, [], ◌∷◌, length, get_or, set, map, Option, refl, sym, ap, subst, ◌∙◌, add-one, arith}
use Rattle.std.specs.List.{AllByRecursion}
use Rattle.std.proofs.lemmas.Bool.{false≢true}
use Rattle.std.proofs.Math.Bool.{or-false, or-true, or_assoc}
use Rattle.log_model.specs.declared.found.Found.{Found}
use Rattle.log_model.specs.declared.found.Found.TheVariants.{Nothing, Part, Whole, Refused}
use Rattle.log_model.specs.Views.{Line}
use Rattle.log_model.specs.Looks.{after_nothing, IsLook, Passed, Stopped, Went, Looks, ends_looks, both_found}
use Rattle.node_lines.specs.Lines.{IsSameLine, AreSameLines, may_look}
use Rattle.node_lines.proofs.Same.{IsSameLine-refl, AreSameLines-refl, AreSameLines-set}

-- ---- each of a front is changed

-- the first so many items mapped, and the others as they are
abbrev pub map_front : {X : Type 0} → (X → X) → ℕ → List X → List X
map_front f zero xs = xs
map_front f (suc i) [] = []
map_front f (suc i) (x ∷ xs) = f x ∷ map_front f i xs

front-next : {X : Type 0} (f : X → X) (xs : List X) (i : ℕ) (y d : X) → i < length xs
    → y ≡ f (get_or (map_front f i xs) i d) → set (map_front f i xs) i y ≡ map_front f (suc i) xs
front-next f [] i y d h e = absurd (omega arith)
front-next f (x ∷ xs) zero y d h e = ap (λ z. z ∷ xs) e
front-next f (x ∷ xs) (suc i) y d h e = ap (λ zs. f x ∷ zs) (front-next f xs i y d (omega arith) e)

-- the next one is changed, too, or is one that doesn't change
pub map_front-next : {X : Type 0} (f : X → X) (olds news : List X) (i : ℕ) (y d : X) → news ≡ map_front f i olds
    → i < length olds → y ≡ f (get_or news i d) → set news i y ≡ map_front f (suc i) olds
map_front-next f olds news i y d e h is =
    ap (λ ns. set ns i y) e ∙ front-next f olds i y d h (is ∙ ap (λ ns. f (get_or ns i d)) e)

-- all of them mapped
pub map_front-all : {X : Type 0} (f : X → X) (xs : List X) → map_front f (length xs) xs ≡ map f xs
map_front-all f [] = refl
map_front-all f (x ∷ xs) = ap (λ zs. f x ∷ zs) (map_front-all f xs)

-- ---- each of a front has a spelling, say

-- it holds of each of the first so many items
abbrev pub AllFront : {X : Type 0} → (X → Type 0) → ℕ → List X → Type 0
AllFront P zero xs = Unit {0}
AllFront P (suc i) [] = Unit {0}
AllFront P (suc i) (x ∷ xs) = P x × AllFront P i xs

-- and of the next one
pub all_front-next : {X : Type 0} (P : X → Type 0) (xs : List X) (i : ℕ) (d : X) → AllFront P i xs → i < length xs
    → P (get_or xs i d) → AllFront P (suc i) xs
all_front-next P [] i d h below p = tt
all_front-next P (x ∷ xs) zero d h below p = (p, tt)
all_front-next P (x ∷ xs) (suc i) d h below p = (h.0, all_front-next P xs i d h.1 (omega arith) p)

-- and so of all
pub all_front-all : {X : Type 0} (P : X → Type 0) (xs : List X) → AllFront P (length xs) xs → AllByRecursion P xs
all_front-all P [] h = tt
all_front-all P (x ∷ xs) h = (h.0, all_front-all P xs h.1)

-- ---- each of a front was looked at, if it may be, and the looks go on

-- whether such looks found a part
abbrev pub part_if : Bool → Found
part_if true = Part
part_if false = Nothing

pub data LooksAtOne (may : Bool) (old new : Line) (part : Bool) : Type 0 where
  Past : may ≡ false → new ≡ old → part ≡ false → LooksAtOne may old new part
  Looked : may ≡ true → IsLook old (part_if part) new → LooksAtOne may old new part

pub record LooksFirst (may : Bool) (old new : Line) (part : Bool) (Rest : Bool → Type 0) : Type 0 where
  pub first : Bool
  pub look : LooksAtOne may old new first
  pub next : Bool
  pub others : Rest next
  pub either : part ≡ first || next

abbrev pub LooksAtFront : (ℕ → Bool) → ℕ → List Line → Bool → List Line → Type 0
LooksAtFront may zero olds part news = (part ≡ false) × (news ≡ olds)
LooksAtFront may (suc i) (old ∷ olds) part (new ∷ news) =
    LooksFirst (may old.other) old new part (λ next. LooksAtFront may i olds next news)
LooksAtFront may (suc i) olds part news = ⊥

-- the next one was looked at
pub LooksAtFront-next : (may : ℕ → Bool) (i : ℕ) (olds : List Line) (part : Bool) (news : List Line) (y d : Line)
    (now : Bool) → LooksAtFront may i olds part news → i < length news
    → LooksAtOne (may (get_or news i d).other) (get_or news i d) y now
    → LooksAtFront may (suc i) olds (part || now) (set news i y)
LooksAtFront-next may zero olds part [] y d now h below look = absurd (omega arith)
LooksAtFront-next may zero olds part (x ∷ xs) y d now h below look =
    let P : List Line → Type 0 = λ os. LooksAtFront may (suc zero) os (part || now) (y ∷ xs) in
    subst P h.1 record {
      first = now;
      look = look;
      next = false;
      others = (refl, refl);
      either = ap (λ p. p || now) h.0 ∙ sym (or-false now);
    }
LooksAtFront-next may (suc i) [] part news y d now h below look = absurd h
LooksAtFront-next may (suc i) (old ∷ olds) part [] y d now h below look = absurd h
LooksAtFront-next may (suc i) (old ∷ olds) part (x ∷ xs) y d now h below look =
    record {
      first = h.first;
      look = h.look;
      next = h.next || now;
      others = LooksAtFront-next may i olds h.next xs y d now h.others (omega arith) look;
      either = ap (λ p. p || now) h.either ∙ or_assoc h.first h.next now;
    }

-- ---- what the looks come to

goes-on : (part : Bool) → ends_looks (part_if part) ≡ false
goes-on true = refl
goes-on false = refl

both-parts : (first next : Bool) → part_if (first || next) ≡ both_found (part_if first) (part_if next)
both-parts true true = refl
both-parts true false = refl
both-parts false next = refl

both-end : (first : Bool) (found : Found) → ends_looks found ≡ true → found ≡ both_found (part_if first) found
both-end true Nothing h = absurd (false≢true h)
both-end true Part h = refl
both-end true (Whole sender stamp frame) h = refl
both-end true Refused h = refl
both-end false found h = refl

-- they go on to the end
pub Looks-all : (may : ℕ → Bool) (olds : List Line) (part : Bool) (news : List Line)
    → LooksAtFront may (length olds) olds part news → Looks may olds (part_if part) news
Looks-all may [] part [] h = ap part_if h.0
Looks-all may [] part (new ∷ news) h = cc
Looks-all may (old ∷ olds) part [] h = absurd h
Looks-all may (old ∷ olds) part (new ∷ news) h =
    let rest : Looks may olds (part_if h.next) news = Looks-all may olds h.next news h.others in
    elim h.look [
      | Past m e none ↦
          let same : h.next ≡ part = ap (λ f. f || h.next) (sym none) ∙ sym h.either in
          let P : Bool → Type 0 = λ p. Looks may olds (part_if p) news in
          Passed m e (subst P same rest)
      | Looked m look ↦
          Went (part_if h.first) (part_if h.next) m (goes-on h.first) look rest
          (ap part_if h.either ∙ both-parts h.first h.next)
    ]

-- or this look ends them
pub Looks-end : (may : ℕ → Bool) (i : ℕ) (olds : List Line) (part : Bool) (news : List Line) (y d : Line)
    (found : Found) → LooksAtFront may i olds part news → i < length news
    → may (get_or news i d).other ≡ true → ends_looks found ≡ true → IsLook (get_or news i d) found y
    → Looks may olds found (set news i y)
Looks-end may zero olds part [] y d found h below m end look = absurd (omega arith)
Looks-end may zero olds part (x ∷ xs) y d found h below m end look =
    let P : List Line → Type 0 = λ os. Looks may os found (y ∷ xs) in
    subst P h.1 (Stopped m end look refl)
Looks-end may (suc i) [] part news y d found h below m end look = absurd h
Looks-end may (suc i) (old ∷ olds) part [] y d found h below m end look = absurd h
Looks-end may (suc i) (old ∷ olds) part (x ∷ xs) y d found h below m end look =
    let rest : Looks may olds found (set xs i y) =
    Looks-end may i olds h.next xs y d found h.others (omega arith) m end look
    in
    elim h.look [
      | Past n e none ↦ Passed n e rest
      | Looked n first ↦ Went (part_if h.first) found n (goes-on h.first) first rest (both-end h.first found end)
    ]

-- ---- the loop's own steps

ends-others : (found : Found) → (found ≡ Nothing → ⊥) → (found ≡ Part → ⊥) → ends_looks found ≡ true
ends-others Nothing n p = absurd (n refl)
ends-others Part n p = absurd (p refl)
ends-others (Whole sender stamp frame) n p = refl
ends-others Refused n p = refl

-- a test's answer is the word's
pub may_look-is : (only : Option ℕ) (other told : ℕ) (answer : Bool) → told ≡ other → answer ≡ may_look only told
    → may_look only other ≡ answer
may_look-is only other told answer e is = ap (may_look only) (sym e) ∙ sym is

-- what a loop over lines has come to: the lines of a front were looked at, and each is the line that it was
pub record LookedSoFar (may : ℕ → Bool) (i : ℕ) (olds : List Line) (part : Bool) (news : List Line) : Type 0 where
  pub looks : LooksAtFront may i olds part news
  pub same : AreSameLines olds news

-- before the first line nothing was looked at
pub LookedSoFar-none : (may : ℕ → Bool) (lines : List Line) → LookedSoFar may 0 lines false lines
LookedSoFar-none may lines = record { looks = (refl, refl); same = AreSameLines-refl lines }

-- the next one was looked at, or passed
pub LookedSoFar-next : (may : ℕ → Bool) (i : ℕ) (olds : List Line) (part : Bool) (news : List Line) (y d : Line)
    (now both : Bool) (after : List Line) → LookedSoFar may i olds part news → i < length news
    → LooksAtOne (may (get_or news i d).other) (get_or news i d) y now → IsSameLine (get_or news i d) y
    → both ≡ part || now → after ≡ set news i y → LookedSoFar may (i + 1) olds both after
LookedSoFar-next may i olds part news y d now both after so below look same either set_is =
    let looks : LooksAtFront may (suc i) olds (part || now) (set news i y) =
    LooksAtFront-next may i olds part news y d now so.looks below look
    in
    let next : LookedSoFar may (suc i) olds (part || now) (set news i y) =
    record { looks = looks; same = AreSameLines-set olds news i y d so.same same }
    in
    let At : ℕ → Type 0 = λ k. LookedSoFar may k olds (part || now) (set news i y) in
    let Found : Bool → Type 0 = λ b. LookedSoFar may (i + 1) olds b (set news i y) in
    let Left : List Line → Type 0 = λ ns. LookedSoFar may (i + 1) olds both ns in
    subst Left (sym set_is) (subst Found (sym either) (subst At (sym (add-one i)) next))

-- it was looked at, and nothing was found
pub LookedSoFar-nothing : (may : ℕ → Bool) (i : ℕ) (olds : List Line) (part : Bool) (news : List Line) (y d : Line)
    (both : Bool) (after : List Line) → LookedSoFar may i olds part news → i < length news
    → may (get_or news i d).other ≡ true → y ≡ after_nothing (get_or news i d) → both ≡ part
    → after ≡ set news i y → LookedSoFar may (i + 1) olds both after
LookedSoFar-nothing may i olds part news y d both after so below m empty is set_is =
    let same : IsSameLine (get_or news i d) y =
    record {
      other = ap (λ line. line.other) empty;
      out = ap (λ line. line.out.stream) empty;
      into = ap (λ line. line.into.stream) empty;
    }
    in
    LookedSoFar-next may i olds part news y d false both after so below (Looked m empty) same
    (is ∙ sym (or-false part)) set_is

-- or a part was found
pub LookedSoFar-part : (may : ℕ → Bool) (i : ℕ) (olds : List Line) (part : Bool) (news : List Line) (y d : Line)
    (both : Bool) (after : List Line) → LookedSoFar may i olds part news → i < length news
    → may (get_or news i d).other ≡ true → IsLook (get_or news i d) Part y → IsSameLine (get_or news i d) y
    → both ≡ true → after ≡ set news i y → LookedSoFar may (i + 1) olds both after
LookedSoFar-part may i olds part news y d both after so below m look same is set_is =
    LookedSoFar-next may i olds part news y d true both after so below (Looked m look) same
    (is ∙ sym (or-true part)) set_is

-- or it was passed
pub LookedSoFar-passed : (may : ℕ → Bool) (i : ℕ) (olds : List Line) (part : Bool) (news : List Line) (d : Line)
    (both : Bool) (after : List Line) → LookedSoFar may i olds part news → i < length news
    → may (get_or news i d).other ≡ false → both ≡ part
    → after ≡ set news i (get_or news i d) → LookedSoFar may (i + 1) olds both after
LookedSoFar-passed may i olds part news d both after so below m is after_is =
    LookedSoFar-next may i olds part news (get_or news i d) d false both after so below (Past m refl refl)
    (IsSameLine-refl (get_or news i d)) (is ∙ sym (or-false part)) after_is

-- at the end of the lines
pub LookedSoFar-all : (may : ℕ → Bool) (i : ℕ) (olds : List Line) (part : Bool) (news : List Line) (found : Found)
    → LookedSoFar may i olds part news → i ≡ length olds → part_if part ≡ found → Looks may olds found news
LookedSoFar-all may i olds part news found so all is =
    let Front : ℕ → Type 0 = λ k. LooksAtFront may k olds part news in
    let Finds : Found → Type 0 = λ f. Looks may olds f news in
    subst Finds is (Looks-all may olds part news (subst Front all so.looks))

-- where a look ends them
pub LookedSoFar-end : (may : ℕ → Bool) (i : ℕ) (olds : List Line) (part : Bool) (news : List Line) (y d : Line)
    (found : Found) → LookedSoFar may i olds part news → i < length news
    → may (get_or news i d).other ≡ true → (found ≡ Nothing → ⊥) → (found ≡ Part → ⊥)
    → IsLook (get_or news i d) found y → Looks may olds found (set news i y)
LookedSoFar-end may i olds part news y d found so below m not_nothing not_part look =
    Looks-end may i olds part news y d found so.looks below m (ends-others found not_nothing not_part) look
