-- The parent of a process, in both kernels: the same one, with the same row.
use Rattle.std.proofs.Common.{◌≡◌, ◌∙◌, ℕ, true, false, Option, Some, None, refl, ap, sym, subst}
use Rattle.std.specs.Option.{option_and_then, option_map}
use Rattle.std.proofs.lemmas.Bool.{true≢false}
use Rattle.number_maps.specs.Maps.{Numbered, get}
use Rattle.number_maps.specs.Rising.{IsRising}
use Rattle.kernel_model.specs.Kernel as plain
use Rattle.kernel_model.specs.Row.{Allowance, lists}
use Rattle.kernel_model.specs.Row as plain_rows
use Rattle.kernel_laws.proofs.EndChanges.{orphan, parent-is}
use Rattle.waiting_model.specs.Marks.{Alive, plain_alive}
use Rattle.waiting_model.specs.Kernel.{Kernel, Process, Living, Parent, alive_in, living_at, parent_in}
use Rattle.waiting_model.specs.Plain.{each, plain_parent, plain_process}
use Rattle.waiting_laws.specs.InLine.{AlikeAt}
use Rattle.waiting_laws.proofs.Maps.{get-each}
use Rattle.waiting_laws.proofs.OwnLines.{SameAllowance, with_row}
use Rattle.waiting_laws.proofs.People.{ParentView, People, parent-view}
use Rattle.waiting_laws.proofs.Processes.{parent-each}
use Rattle.waiting_laws.proofs.Rows.{AliveAlike, LivesAlike, LivedAlike, RowsAlike, lived-alike, lives-alike}

-- no two processes list the same child
abbrev pub OneParent : Kernel → Type 0
OneParent k =
    (p q : ℕ) (a b : Alive) (child : ℕ) → living_at k p ≡ Some a → living_at k q ≡ Some b
    → lists a.row.family child ≡ true → lists b.row.family child ≡ true → p ≡ q

-- the same parent, with the same row
pub record SameParent (p : Parent) (q : plain.Parent) : Type 0 where
  pub allowance : Allowance
  pub same : SameAllowance p.alive allowance
  pub is : (let r : plain.Parent = record { pid = p.pid; alive = with_row p.alive.row allowance } in r ≡ q)

-- both have the same parent, or neither has one
abbrev pub ParentsAlike : Option Parent → Option plain.Parent → Type 0
ParentsAlike None None = Unit {0}
ParentsAlike (Some p) (Some q) = SameParent p q
ParentsAlike o r = ⊥

-- where there is none, no process lists the child
pub whole-orphan : (k : Kernel) (child : ℕ) → parent_in child k.processes ≡ None → (p : ℕ) (a : Alive)
    → get k.processes p ≡ Some (Living a) → lists a.row.family child ≡ false
whole-orphan k child none p a there =
    orphan child (each plain_process k.processes)
    (parent-each child k.processes ∙ ap (option_map plain_parent) none) p (plain_alive a)
    (get-each plain_process k.processes p ∙ ap (option_map plain_process) there)

row-alike : (a : Alive) (b : plain_rows.Alive) → AliveAlike a b → with_row a.row b.allowance ≡ b
row-alike a b alike = ap (λ row. with_row row b.allowance) alike.0

-- two who are alike are the same parent
same-parent : (p : Parent) (q : plain.Parent) → p.pid ≡ q.pid → AliveAlike p.alive q.alive → SameParent p q
same-parent p q same alike =
    record {
      allowance = q.alive.allowance;
      same = alike.1;
      is =
          ap
          (λ (n : ℕ).
          (let r : plain.Parent = record { pid = n; alive = with_row p.alive.row q.alive.allowance } in r)) same
          ∙ ap (λ (x : plain_rows.Alive). (let r : plain.Parent = record { pid = q.pid; alive = x } in r))
          (row-alike p.alive q.alive alike);
    }

module _ (k : Kernel) (qs : Numbered plain.Process) (alike : RowsAlike k.processes qs) (people : People k.processes)
    (one : OneParent k) (rising : IsRising qs) (child : ℕ) where
  both-parents : (p : Parent) → ParentView k.processes child (Some p) → (q : plain.Parent)
      → plain.parent_in child qs ≡ Some q → SameParent p q
  both-parents p view q found =
      let there = parent-is child qs rising q found
      in let other : LivedAlike (get k.processes q.pid) q.alive =
      lived-alike q.alive (get k.processes q.pid)
      (subst (λ (o : Option plain.Process). AlikeAt (get k.processes q.pid) o) there.0 (alike q.pid))
      in let same : p.pid ≡ q.pid =
      one p.pid q.pid p.alive other.alive child (ap (option_and_then alive_in) view.0)
      (ap (option_and_then alive_in) other.is) view.1
      (ap (λ (row : plain_rows.Row). lists row.family child) other.alike.0 ∙ there.1)
      in same-parent p q same
      (subst (λ (o : Option plain.Process). AlikeAt (Some (Living p.alive)) o) there.0
      (subst (λ (o : Option Process). AlikeAt o (get qs q.pid)) (ap (get k.processes) (sym same) ∙ view.0)
      (alike q.pid)))

  one-parent : (p : Parent) → ParentView k.processes child (Some p) → plain.parent_in child qs ≡ None → ⊥
  one-parent p view none =
      let other : LivesAlike (get qs p.pid) p.alive =
      lives-alike p.alive (get qs p.pid)
      (subst (λ (o : Option Process). AlikeAt o (get qs p.pid)) view.0 (alike p.pid))
      in true≢false
      (sym view.1
      ∙ (ap (λ (row : plain_rows.Row). lists row.family child) other.alike.0
      ∙ orphan child qs none p.pid other.alive other.is))

  other-parent : (q : plain.Parent) → plain.parent_in child qs ≡ Some q → parent_in child k.processes ≡ None → ⊥
  other-parent q found none =
      let there = parent-is child qs rising q found
      in let other : LivedAlike (get k.processes q.pid) q.alive =
      lived-alike q.alive (get k.processes q.pid)
      (subst (λ (o : Option plain.Process). AlikeAt (get k.processes q.pid) o) there.0 (alike q.pid))
      in true≢false
      (sym there.1
      ∙ (ap (λ (row : plain_rows.Row). lists row.family child) (sym other.alike.0)
      ∙ whole-orphan k child none q.pid other.alive other.is))

  pub parents-alike : (o : Option Parent) → parent_in child k.processes ≡ o
      → ParentsAlike o (plain.parent_in child qs)
  parents-alike o is =
      by_both o is (subst (ParentView k.processes child) is (parent-view child k.processes people.rising))
      (plain.parent_in child qs) refl
    where
      by_both : (o : Option Parent) → parent_in child k.processes ≡ o → ParentView k.processes child o
          → (r : Option plain.Parent) → plain.parent_in child qs ≡ r → ParentsAlike o r
      by_both None is view None found = tt
      by_both None is view (Some q) found = other-parent q found is
      by_both (Some p) is view None found = one-parent p view found
      by_both (Some p) is view (Some q) found = both-parents p view q found
