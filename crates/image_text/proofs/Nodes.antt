-- Going over nodes and their events.
use Rattle.std.proofs.Common.{◌≡◌, ℕ, zero, suc, ◌+◌, ◌<◌, Bool, true, false, nat_eq, List, [], ◌∷◌, ◌++◌, length, map, take, get_or, refl, sym, ap, ◌∙◌, append-nil, append_assoc, arith}
use Rattle.std.specs.List.{flat_map}
use Rattle.std.proofs.lemmas.List.{take_more, map-append}
use Rattle.std.proofs.lemmas.Grind.{flat_map-append}
use Rattle.pico_base.specs.declared.script.Event.{Event}
use Rattle.stamp_merge.specs.declared.Stamped.{Stamped}
use Rattle.stamp_merge.specs.Merge.{items_of}
use Rattle.stamp_merge.proofs.Filters.{filter-yes, filter-no}
use Rattle.stamp_merge.proofs.Merges.{of-append}
use Rattle.world_model.specs.World.{numbers}
use Rattle.image_text.specs.Image.{event_line, event_lines, ended}

numbers-more : (first n : ℕ) → numbers first (suc n) ≡ numbers first n ++ (first + n) ∷ []
numbers-more first zero =
    let e : first ≡ first + 0 = omega arith in
    ap (λ (k : ℕ). k ∷ []) e
numbers-more first (suc n) =
    let e : (first + 1) + n ≡ first + suc n = omega arith in
    ap (λ (ns : List ℕ). first ∷ ns) (numbers-more (first + 1) n)
    ∙ ap (λ (k : ℕ). first ∷ (numbers (first + 1) n ++ k ∷ [])) e

-- the last of so many numbers
pub numbers-last : (first n : ℕ) → numbers first (n + 1) ≡ numbers first n ++ (first + n) ∷ []
numbers-last first n =
    let e : n + 1 ≡ suc n = omega arith in
    ap (numbers first) e ∙ numbers-more first n

one-behind : (n : ℕ) → 1 + n ≡ n + 1
one-behind n = omega arith

-- a list for each node, and one more
pub lists-next : {X : Type 0} (f : ℕ → X) (n : ℕ) → map f (numbers 1 (n + 1)) ≡ map f (numbers 1 n) ++ f (n + 1) ∷ []
lists-next {X} f n =
    ap (map f) (numbers-last 1 n) ∙ map-append f (numbers 1 n) ((1 + n) ∷ [])
    ∙ ap (λ (k : ℕ). map f (numbers 1 n) ++ f k ∷ []) (one-behind n)

-- all nodes' items, and those of one more
pub items-next : {X : Type 0} (f : ℕ → List X) (n : ℕ)
    → flat_map f (numbers 1 (n + 1)) ≡ flat_map f (numbers 1 n) ++ f (n + 1)
items-next {X} f n =
    ap (flat_map f) (numbers-last 1 n) ∙ flat_map-append f (numbers 1 n) ((1 + n) ∷ [])
    ∙ ap (λ (xs : List X). flat_map f (numbers 1 n) ++ xs) (append-nil (f (1 + n)))
    ∙ ap (λ (k : ℕ). flat_map f (numbers 1 n) ++ f k) (one-behind n)

-- ---- a node's items, one after the other

module _ {T : Type 0} (p : ℕ) (e : Stamped T) (items : List (Stamped T)) (i : ℕ) (lt : i < length items)
    (is : e ≡ get_or items i e) where
  taken : take (i + 1) items ≡ take i items ++ e ∷ []
  taken = take_more items i e lt ∙ ap (λ (x : Stamped T). take i items ++ x ∷ []) (sym is)

  both : items_of p (take (i + 1) items) ≡ items_of p (take i items) ++ items_of p (e ∷ [])
  both = ap (items_of p) taken ∙ of-append p (take i items) (e ∷ [])

  -- the next one is the node's
  pub own-next : nat_eq e.node p ≡ true → items_of p (take (i + 1) items) ≡ items_of p (take i items) ++ e ∷ []
  own-next h =
      both ∙ ap (λ (es : List (Stamped T)). items_of p (take i items) ++ es)
      (filter-yes (λ (f : Stamped T). nat_eq f.node p) e [] h)

  -- it is another's
  pub other-next : nat_eq e.node p ≡ false → items_of p (take (i + 1) items) ≡ items_of p (take i items)
  other-next h =
      both ∙ ap (λ (es : List (Stamped T)). items_of p (take i items) ++ es)
      (filter-no (λ (f : Stamped T). nat_eq f.node p) e [] h) ∙ append-nil (items_of p (take i items))

-- ---- their lines

pub lines-append : (xs ys : List (Stamped Event)) → event_lines (xs ++ ys) ≡ event_lines xs ++ event_lines ys
lines-append xs ys = flat_map-append (λ (e : Stamped Event). ended (event_line e)) xs ys

pub line-alone : (e : Stamped Event) → event_lines (e ∷ []) ≡ ended (event_line e)
line-alone e = append-nil (ended (event_line e))

-- behind the lines of these come those
pub lines-behind : (old out : List ℕ) (xs ys zs : List (Stamped Event)) → out ≡ old ++ event_lines xs → zs ≡ xs ++ ys
    → out ++ event_lines ys ≡ old ++ event_lines zs
lines-behind old out xs ys zs h e =
    ap (λ (bytes : List ℕ). bytes ++ event_lines ys) h ∙ append_assoc old (event_lines xs) (event_lines ys)
    ∙ ap (λ (bytes : List ℕ). old ++ bytes) (sym (lines-append xs ys) ∙ ap event_lines (sym e))

-- behind the lines of these comes that of one more
pub line-behind : (old out : List ℕ) (xs : List (Stamped Event)) (e : Stamped Event) (zs : List (Stamped Event))
    → out ≡ old ++ event_lines xs → zs ≡ xs ++ e ∷ [] → out ++ ended (event_line e) ≡ old ++ event_lines zs
line-behind old out xs e zs h same =
    ap (λ (bytes : List ℕ). out ++ bytes) (sym (line-alone e)) ∙ lines-behind old out xs (e ∷ []) zs h same
