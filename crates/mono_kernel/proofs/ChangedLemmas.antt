-- A process that changes where it lives.
use Rattle.std.proofs.Common.{◌≡◌, ◌∙◌, ℕ, Bool, true, false, nat_eq, if◌then◌else◌, [], ◌∷◌, Option, Some, None, is_some, IfSome, refl, sym, ap, Ordering}
use Rattle.std.specs.declared.cmp.Ordering.TheVariants.{Less, Equal, Greater}
use Rattle.std.specs.List.{AllByRecursion}
use Rattle.std.specs.Option.{option_and_then}
use Rattle.std.specs.Ordering.{nat_cmp, match_ordering}
use Rattle.std.specs.BTreeMap.{is_at}
use Rattle.std.specs.Map.{keys_of}
use Rattle.std.proofs.lemmas.Map.Keys.{sorted_head, sorted_tail}
use Rattle.std.proofs.lemmas.Map.Steps.{set_value_same}
use Rattle.number_maps.specs.Maps.{Numbered, get, put}
use Rattle.number_maps.specs.Rising.{IsRising}
use Rattle.number_maps.proofs.Order.{eq-same, equal-same, less-apart, greater-apart}
use Rattle.number_maps.proofs.Changes.{less-none, set_value-put}
use Rattle.waiting_model.specs.Marks.{Alive}
use Rattle.waiting_model.specs.Kernel.{Process, Living, Ended, Gone, alive_in, living_in, where_living, change_living}
use Rattle.mono_kernel.specs.Table.{IfLiving}

module _ (pid : ℕ) (f : Alive → Alive) where
  changed_value : ℕ × Process → Bool → ℕ × Process
  changed_value e b = (e.0, if b then where_living f e.1 else e.1)

  others-stay : (es : Numbered Process) → AllByRecursion (λ y. nat_cmp pid y ≡ Less) (keys_of es)
      → change_living es pid f ≡ es
  unfolding changed_value
  others-stay [] all = refl
  others-stay (e ∷ es) all =
      ap (λ (b : Bool). changed_value e b ∷ change_living es pid f) (less-apart pid e.0 all.0)
      ∙ ap (λ (xs : Numbered Process). e ∷ xs) (others-stay es all.1)

  here : (e : ℕ × Process) (es : Numbered Process) (v : Process) (o : Ordering) → nat_cmp pid e.0 ≡ o
      → IsRising (e ∷ es)
      → get (e ∷ es) pid ≡ Some v
      → (get es pid ≡ Some v → change_living es pid f ≡ put es pid (where_living f v))
      → change_living (e ∷ es) pid f
      ≡ match_ordering o ((pid, where_living f v) ∷ e ∷ es) ((e.0, where_living f v) ∷ es)
      (e ∷ put es pid (where_living f v))
  unfolding changed_value
  here e es v Less h rising there rec =
      let none : get (e ∷ es) pid ≡ None = less-none pid e es rising h in absurd (cc)
  here e es v Equal h rising there rec =
      let is : Some e.1 ≡ Some v = rw h at there
      in let value : e.1 ≡ v = cc
      in let num : pid ≡ e.0 = equal-same pid e.0 h
      in let yes : nat_eq pid e.0 ≡ true = rw num (eq-same e.0)
      in let above : AllByRecursion (λ y. nat_cmp pid y ≡ Less) (keys_of es) =
      rw num (sorted_head nat_cmp e.0 (keys_of es) rising)
      in ap (λ (b : Bool). changed_value e b ∷ change_living es pid f) yes
      ∙ ap (λ (xs : Numbered Process). (e.0, where_living f e.1) ∷ xs) (others-stay es above)
      ∙ ap (λ (w : Process). (let x : ℕ × Process = (e.0, where_living f w) in x ∷ es)) value
  here e es v Greater h rising there rec =
      let later : get es pid ≡ Some v = rw h at there
      in ap (λ (b : Bool). changed_value e b ∷ change_living es pid f) (greater-apart pid e.0 h)
      ∙ ap (λ (xs : Numbered Process). e ∷ xs) (rec later)

  pub change-put : (ps : Numbered Process) (v : Process) → IsRising ps → get ps pid ≡ Some v
      → change_living ps pid f ≡ put ps pid (where_living f v)
  change-put [] v rising there = absurd (cc)
  change-put (e ∷ es) v rising there =
      here e es v (nat_cmp pid e.0) refl rising there
      (λ later. change-put es v (sorted_tail nat_cmp e.0 (keys_of es) rising) later)

  absent : (e : ℕ × Process) (es : Numbered Process) (o : Ordering) → nat_cmp pid e.0 ≡ o
      → get (e ∷ es) pid ≡ None
      → (get es pid ≡ None → change_living es pid f ≡ es)
      → change_living (e ∷ es) pid f ≡ e ∷ es
  unfolding changed_value
  absent e es Less h none rec =
      let later : get es pid ≡ None = rw h at none
      in ap (λ (b : Bool). changed_value e b ∷ change_living es pid f) (less-apart pid e.0 h)
      ∙ ap (λ (xs : Numbered Process). e ∷ xs) (rec later)
  absent e es Equal h none rec = let no : Some e.1 ≡ None = rw h at none in absurd (cc)
  absent e es Greater h none rec =
      let later : get es pid ≡ None = rw h at none
      in ap (λ (b : Bool). changed_value e b ∷ change_living es pid f) (greater-apart pid e.0 h)
      ∙ ap (λ (xs : Numbered Process). e ∷ xs) (rec later)

  nobody-changes : (ps : Numbered Process) → get ps pid ≡ None → change_living ps pid f ≡ ps
  nobody-changes [] none = refl
  nobody-changes (e ∷ es) none = absent e es (nat_cmp pid e.0) refl none (λ later. nobody-changes es later)

  -- a value that doesn't change is put where it was
  stays : (ps : Numbered Process) (v : Process) → IsRising ps → get ps pid ≡ Some v → where_living f v ≡ v
      → change_living ps pid f ≡ ps
  stays ps v rising there same =
      change-put ps v rising there ∙ ap (put ps pid) same ∙ sym (set_value-put ps pid v v rising there)
      ∙ set_value_same (is_at (nat_cmp pid)) ps v there

  -- where no process lives nothing changes
  pub change-dead : (ps : Numbered Process) → IsRising ps → is_some (living_in ps pid) ≡ false
      → change_living ps pid f ≡ ps
  change-dead ps rising dead = at (get ps pid) refl dead
    where
      at : (o : Option Process) → get ps pid ≡ o → is_some (option_and_then alive_in o) ≡ false
          → change_living ps pid f ≡ ps
      at None is d = nobody-changes ps is
      at (Some (Living a)) is d = absurd (cc)
      at (Some (Ended ending)) is d = stays ps (Ended ending) rising is refl
      at (Some Gone) is d = stays ps Gone rising is refl

  -- what is put where a process lives is its change
  pub change-lives : (ps ns : Numbered Process) → IsRising ps → is_some (living_in ps pid) ≡ true
      → IfLiving ps pid (λ a. ns ≡ put ps pid (Living (f a)))
      → ns ≡ change_living ps pid f
  change-lives ps ns rising lives is = at (get ps pid) refl lives is
    where
      at : (o : Option Process) → get ps pid ≡ o → is_some (option_and_then alive_in o) ≡ true
          → IfSome (option_and_then alive_in o) (λ a. ns ≡ put ps pid (Living (f a)))
          → ns ≡ change_living ps pid f
      at None is l h = absurd (cc)
      at (Some (Living a)) is l h = h ∙ sym (change-put ps (Living a) rising is)
      at (Some (Ended ending)) is l h = absurd (cc)
      at (Some Gone) is l h = absurd (cc)
