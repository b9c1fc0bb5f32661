-- What a change of the living process of a number leaves at each number, and of who is whose parent.
use Rattle.std.proofs.Common.{◌≡◌, ◌≢◌, ◌∙◌, ℕ, Bool, true, false, nat_eq, [], ◌∷◌, Option, Some, None, refl, ap, sym, inl, inr}
use Rattle.std.specs.Prelude.{if◌then◌else◌}
use Rattle.std.specs.Option.{option_map}
use Rattle.std.proofs.lemmas.Bool.{cases_eq, eq-eqb}
use Rattle.number_maps.specs.Maps.{Numbered, get}
use Rattle.number_maps.proofs.Order.{eq-other}
use Rattle.number_maps.proofs.LookUps.{get-first, get-later}
use Rattle.kernel_model.specs.Row.{lists}
use Rattle.waiting_model.specs.Marks.{Alive}
use Rattle.waiting_model.specs.Kernel.{Process, Living, Ended, Gone, change_if, change_living, parent_in, where_living}
use Rattle.waiting_footprint_laws.proofs.Parents.{lists_in, parent-skip, parent-skipped}

abbrev changed_if : Bool → (Alive → Alive) → Process → Option Process
changed_if b f v = Some (if b then where_living f v else v)

-- at the number itself
pub changed-same : (ps : Numbered Process) (n : ℕ) (f : Alive → Alive)
    → get (change_living ps n f) n ≡ option_map (where_living f) (get ps n)
changed-same [] n f = refl
changed-same (p ∷ ps) n f =
    elim (cases_eq n p.0) [
      | inl h ↦ get-first (change_if n f p) (change_living ps n f) n h
          ∙ ap (λ b. changed_if b f p.1) (eq-eqb n p.0 h)
          ∙ sym (ap (option_map (where_living f)) (get-first p ps n h))
      | inr ne ↦ get-later (change_if n f p) (change_living ps n f) n ne
          ∙ changed-same ps n f
          ∙ sym (ap (option_map (where_living f)) (get-later p ps n ne))
    ]

-- at another
pub changed-other : (ps : Numbered Process) (n : ℕ) (f : Alive → Alive) (q : ℕ) → q ≢ n
    → get (change_living ps n f) q ≡ get ps q
changed-other [] n f q other = refl
changed-other (p ∷ ps) n f q other =
    elim (cases_eq q p.0) [
      | inl h ↦ get-first (change_if n f p) (change_living ps n f) q h
          ∙ ap (λ b. changed_if b f p.1) (eq-other n p.0 (λ e. other (h ∙ sym e)))
          ∙ sym (get-first p ps q h)
      | inr ne ↦ get-later (change_if n f p) (change_living ps n f) q ne
          ∙ changed-other ps n f q other
          ∙ sym (get-later p ps q ne)
    ]

-- Where rows stay, families do.

lists-where : (child : ℕ) (f : Alive → Alive) → ((a : Alive) → (f a).row ≡ a.row) → (v : Process)
    → lists_in child (where_living f v) ≡ lists_in child v
lists-where child f same (Living a) = ap (λ row. lists row.family child) (same a)
lists-where child f same (Ended ending) = refl
lists-where child f same Gone = refl

lists-if : (child : ℕ) (f : Alive → Alive) → ((a : Alive) → (f a).row ≡ a.row) → (v : Process) (b : Bool)
    → lists_in child (if b then where_living f v else v) ≡ lists_in child v
lists-if child f same v true = lists-where child f same v
lists-if child f same v false = refl

-- who has no parent has none afterwards
pub orphan-changed : (child : ℕ) (ps : Numbered Process) (n : ℕ) (f : Alive → Alive)
    → ((a : Alive) → (f a).row ≡ a.row)
    → parent_in child ps ≡ None → parent_in child (change_living ps n f) ≡ None
orphan-changed child [] n f same h = refl
orphan-changed child (e ∷ es) n f same h =
    let s = parent-skipped child e.0 e.1 (parent_in child es) h
    in parent-skip child e.0 (if nat_eq n e.0 then where_living f e.1 else e.1)
    (parent_in child (change_living es n f)) (lists-if child f same e.1 (nat_eq n e.0) ∙ s.0)
    ∙ orphan-changed child es n f same s.1
