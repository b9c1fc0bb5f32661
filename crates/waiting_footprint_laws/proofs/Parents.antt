-- A process's parent, by the processes at each number.
use Rattle.std.proofs.Common.{◌≡◌, ◌≢◌, ◌⊎◌, ℕ, Bool, true, false, [], ◌∷◌, Option, Some, None, cond, refl, ap, sym, subst, ◌∙◌, inl, inr}
use Rattle.std.specs.Option.{option_and_then}
use Rattle.std.proofs.lemmas.Bool.{cases_order, cases_eq}
use Rattle.number_maps.specs.Maps.{Numbered, get, put}
use Rattle.kernel_model.specs.Row.{lists}
use Rattle.waiting_model.specs.Marks.{Alive}
use Rattle.waiting_model.specs.Kernel.{Process, Living, Ended, Gone, Parent, alive_in, living_in, parent_if, parent_in}
use Rattle.number_maps.specs.Rising.{IsRising}
use Rattle.number_maps.proofs.Rising.{Above, above-first, rising-rest, get-above}
use Rattle.number_maps.proofs.Order.{cmp-equal, cmp-less, cmp-greater}
use Rattle.number_maps.proofs.LookUps.{get-first, get-later}

-- the process lives and lists the child
abbrev pub lists_in : ℕ → Process → Bool
lists_in child (Living a) = lists a.row.family child
lists_in child (Ended ending) = false
lists_in child Gone = false

-- a process that doesn't list the child isn't its parent
pub parent-skip : (child pid : ℕ) (v : Process) (rest : Option Parent) → lists_in child v ≡ false
    → parent_if child pid v rest ≡ rest
parent-skip child pid (Living a) rest h = rw h refl
parent-skip child pid (Ended ending) rest h = refl
parent-skip child pid Gone rest h = refl

-- what it says of the first process that nobody is the parent
abbrev Skipped : ℕ → Process → Option Parent → Type 0
Skipped child v rest = (lists_in child v ≡ false) × (rest ≡ None)

skipped-by : (r : Parent) (rest : Option Parent) (b : Bool) → cond b (Some r) rest ≡ None → (b ≡ false) × (rest ≡ None)
skipped-by r rest true h = cc
skipped-by r rest false h = (refl, h)

-- where nobody is the parent, the first process isn't, and nobody behind it
pub parent-skipped : (child pid : ℕ) (v : Process) (rest : Option Parent) → parent_if child pid v rest ≡ None
    → Skipped child v rest
parent-skipped child pid (Living a) rest h =
    skipped-by (record { pid = pid; alive = a }) rest (lists a.row.family child) h
parent-skipped child pid (Ended ending) rest h = (refl, h)
parent-skipped child pid Gone rest h = (refl, h)

-- a process that doesn't list the child makes no parent
pub orphan-put : (child : ℕ) (ps : Numbered Process) (k : ℕ) (v : Process) → lists_in child v ≡ false
    → parent_in child ps ≡ None → parent_in child (put ps k v) ≡ None
orphan-put child [] k v l h = parent-skip child k v None l
orphan-put child (e ∷ es) k v l h =
    let s = parent-skipped child e.0 e.1 (parent_in child es) h
    in elim (cases_order k e.0) [
      | inl c ↦ rw (cmp-equal k e.0 c) (parent-skip child e.0 v (parent_in child es) l ∙ s.1)
      | inr (inl c) ↦ rw (cmp-less k e.0 c) (parent-skip child k v (parent_in child (e ∷ es)) l ∙ h)
      | inr (inr c) ↦ rw (cmp-greater k e.0 c)
          (parent-skip child e.0 e.1 (parent_in child (put es k v)) s.0 ∙ orphan-put child es k v l s.1)
    ]

living-lists : (child : ℕ) (v : Process) (a : Alive) → alive_in v ≡ Some a → lists a.row.family child ≡ lists_in child v
living-lists child (Living b) a h = let e : a ≡ b = cc in ap (λ x. lists x.row.family child) e
living-lists child (Ended ending) a h = cc
living-lists child Gone a h = cc

-- where there is no parent, no living process lists the child
pub orphan-unlisted : (child : ℕ) (ps : Numbered Process) (p : ℕ) (a : Alive) → parent_in child ps ≡ None
    → living_in ps p ≡ Some a → lists a.row.family child ≡ false
orphan-unlisted child [] p a h l = cc
orphan-unlisted child (e ∷ es) p a h l =
    let s = parent-skipped child e.0 e.1 (parent_in child es) h
    in elim (cases_eq p e.0) [
      | inl c ↦ living-lists child e.1 a (sym (ap (option_and_then alive_in) (get-first e es p c)) ∙ l) ∙ s.0
      | inr c ↦ orphan-unlisted child es p a s.1 (sym (ap (option_and_then alive_in) (get-later e es p c)) ∙ l)
    ]

-- what stands in the rest isn't at the first number
rest-apart : (e : ℕ × Process) (es : Numbered Process) (p : ℕ) (a : Alive) → Above e.0 es → living_in es p ≡ Some a
    → p ≢ e.0
rest-apart e es p a above l h =
    let n = ap (option_and_then alive_in) (subst (λ (q : ℕ). get es q ≡ None) (sym h) (get-above e.0 es above))
    in cc

first-unlisted : (child : ℕ) (v : Process) → ((a : Alive) → alive_in v ≡ Some a → lists a.row.family child ≡ false)
    → lists_in child v ≡ false
first-unlisted child (Living a) h = h a refl
first-unlisted child (Ended ending) h = refl
first-unlisted child Gone h = refl

-- a child that no living process lists has no parent
pub orphan-from_unlisted : (child : ℕ) (ps : Numbered Process) → IsRising ps
    → ((p : ℕ) (a : Alive) → living_in ps p ≡ Some a → lists a.row.family child ≡ false) → parent_in child ps ≡ None
orphan-from_unlisted child [] r h = refl
orphan-from_unlisted child (e ∷ es) r h =
    let first : lists_in child e.1 ≡ false =
    first-unlisted child e.1 (λ a l. h e.0 a (ap (option_and_then alive_in) (get-first e es e.0 refl) ∙ l))
    in parent-skip child e.0 e.1 (parent_in child es) first
    ∙ orphan-from_unlisted child es (rising-rest e es r)
    (λ p a l. h p a (ap (option_and_then alive_in) (get-later e es p (rest-apart e es p a (above-first e es r) l)) ∙ l))

-- the parent lives and lists the child
abbrev pub IsParentIn : ℕ → Numbered Process → Parent → Type 0
IsParentIn child ps r = (living_in ps r.pid ≡ Some r.alive) × (lists r.alive.row.family child ≡ true)

parent-first : (child pid : ℕ) (a : Alive) (rest : Option Parent) (r : Parent) (b : Bool) → lists a.row.family child ≡ b
    → cond b (Some (record { pid = pid; alive = a })) rest ≡ Some r
    → ((r.pid ≡ pid) × (r.alive ≡ a) × (lists a.row.family child ≡ true)) ⊎ (rest ≡ Some r)
parent-first child pid a rest r true l h = inl (cc, cc, l)
parent-first child pid a rest r false l h = inr h

parent-cases : (child pid : ℕ) (v : Process) (rest : Option Parent) (r : Parent) → parent_if child pid v rest ≡ Some r
    → ((r.pid ≡ pid) × (alive_in v ≡ Some r.alive) × (lists r.alive.row.family child ≡ true)) ⊎ (rest ≡ Some r)
parent-cases child pid (Living a) rest r h =
    elim (parent-first child pid a rest r (lists a.row.family child) refl h) [
      | inl w ↦ inl (w.0, ap Some (sym w.1), ap (λ x. lists x.row.family child) w.1 ∙ w.2)
      | inr w ↦ inr w
    ]
parent-cases child pid (Ended ending) rest r h = inr h
parent-cases child pid Gone rest r h = inr h

-- a child's parent lives and lists it
pub parent-is : (child : ℕ) (ps : Numbered Process) (r : Parent) → IsRising ps → parent_in child ps ≡ Some r
    → IsParentIn child ps r
parent-is child [] r s h = cc
parent-is child (e ∷ es) r s h =
    elim (parent-cases child e.0 e.1 (parent_in child es) r h) [
      | inl w ↦ (ap (option_and_then alive_in) (get-first e es r.pid w.0) ∙ w.1, w.2)
      | inr w ↦
          let i = parent-is child es r (rising-rest e es s) w
          in (
            ap (option_and_then alive_in)
                (get-later e es r.pid (rest-apart e es r.pid r.alive (above-first e es s) i.0))
                ∙ i.0,
            i.1,
          )
    ]
