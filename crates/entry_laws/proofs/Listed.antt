-- Whom a process lists after an entry, it listed before, but for a new child.
use Rattle.std.proofs.Common.{◌≡◌, ◌⊎◌, ℕ, Bool, true, Some, sym, subst, ◌∙◌, inl, inr}
use Rattle.std.specs.Prelude.{Contains}
use Rattle.std.proofs.lemmas.Bool.{false≢true}
use Rattle.pico_base.specs.declared.numbers.Name.TheVariants.{Proc}
use Rattle.pico_base.specs.declared.reply.Ending.{Ending}
use Rattle.kernel_model.specs.Row.{Alive, Family, Row, ended_child, family_after_end, ignores_children, lists, no_family, with_child, without_ended}
use Rattle.kernel_model.specs.Kernel.{Kernel, living_at}
use Rattle.kernel_model.specs.Valid.{ListsEnded}
use Rattle.kernel_laws.proofs.Members.{contains-none, ended-end, lists-child, lists-end, without-back}
use Rattle.node_model.specs.Bodies.{Living, body_in}
use Rattle.node_model.specs.Serving.{child_body, parent_body}
use Rattle.entry_laws.specs.Entering.{SameKind, Same, Lives}
use Rattle.entry_laws.proofs.Bodies.{body-living, living-body}

-- a process lives, and lists the child, living or ended
pub record ListsOne (k : Kernel) (p child : ℕ) : Type 0 where
  pub alive : Alive
  pub lives : living_at k p ≡ Some alive
  pub listed : (lists alive.row.family child ≡ true) ⊎ ListsEnded alive child

-- the same of a family
abbrev pub ListsIn : Family → ℕ → Type 0
ListsIn f child = (lists f child ≡ true) ⊎ ((ending : Ending) × Contains f.ended (ended_child child ending))

living-same : {r s : Row} → Living r ≡ Living s → r ≡ s
living-same h = cc

-- by the body
pub lists-by : (k : Kernel) (p child : ℕ) (row : Row) → body_in k (Proc p) ≡ Living row → ListsIn row.family child
    → ListsOne k p child
lists-by k p child row is h =
    let a = body-living k p row is
    in record {
      alive = a.alive;
      lives = a.lives;
      listed = subst (λ (r : Row). ListsIn r.family child) (sym a.row_is) h;
    }

pub lists-in : (k : Kernel) (p child : ℕ) (row : Row) → ListsOne k p child → body_in k (Proc p) ≡ Living row
    → ListsIn row.family child
lists-in k p child row l is =
    subst (λ (r : Row). ListsIn r.family child) (living-same (sym (living-body k p l.alive l.lives) ∙ is)) l.listed

same-by : (k next : Kernel) (p child : ℕ) → SameKind (body_in k (Proc p)) (body_in next (Proc p))
    → ListsOne next p child → ListsOne k p child
same-by k next p child (Same is) l =
    lists-by k p child l.alive.row (sym is ∙ living-body next p l.alive l.lives) l.listed
same-by k next p child (Lives r s was is family) l =
    lists-by k p child r was
    (subst (λ (f : Family). ListsIn f child) family (lists-in next p child s l is))

-- a process that is as before for its family
pub listed-same : (k next : Kernel) (p child : ℕ) → SameKind (body_in k (Proc p)) (body_in next (Proc p))
    → ListsOne next p child → ListsOne k p child
listed-same k next p child same l = same-by k next p child same l

-- one that has forked
forked-in : (f : Family) (n child : ℕ) → ListsIn (with_child f n) child → ListsIn f child ⊎ (child ≡ n)
forked-in f n child (inl h) =
    elim (lists-child f n child h) [ inl old ↦ inl (inl old) | inr new ↦ inr new ]
forked-in f n child (inr h) = inl (inr h)

-- whom the parent lists after a fork it listed before, or it is the new child
pub listed-fork : (k next : Kernel) (pid n child : ℕ) (row : Row) → body_in k (Proc pid) ≡ Living row
    → body_in next (Proc pid) ≡ parent_body row n → ListsOne next pid child
    → ListsOne k pid child ⊎ (child ≡ n)
listed-fork k next pid n child row own after l =
    elim (forked-in row.family n child (lists-in next pid child _ l after)) [
      | inl old ↦ inl (lists-by k pid child row own old)
      | inr new ↦ inr new
    ]

-- a new process lists nobody
pub listed-new : (next : Kernel) (n child : ℕ) (row : Row) → body_in next (Proc n) ≡ child_body row
    → ListsOne next n child → ⊥
listed-new next n child row is l = none (lists-in next n child _ l is)
  where
    none : ListsIn no_family child → ⊥
    none (inl h) = false≢true h
    none (inr h) = contains-none (ended_child child h.0) h.1

-- one that has found an ended child
pub listed-found : (k next : Kernel) (pid found child : ℕ) (row after : Row) → body_in k (Proc pid) ≡ Living row
    → body_in next (Proc pid) ≡ Living after → after.family ≡ without_ended found row.family
    → ListsOne next pid child → ListsOne k pid child
listed-found k next pid found child row after own is family l =
    lists-by k pid child row own
    (before (subst (λ (f : Family). ListsIn f child) family (lists-in next pid child after l is)))
  where
    before : ListsIn (without_ended found row.family) child → ListsIn row.family child
    before (inl h) = inl h
    before (inr h) = inr (h.0, (without-back row.family found child h.0 h.1).0)

-- one whose child has ended: that child was listed, too
ended-in : (f : Family) (n : ℕ) (ending : Ending) (ignored : Bool) (child : ℕ) → lists f n ≡ true
    → ListsIn (family_after_end f n ending ignored) child → ListsIn f child
ended-in f n ending ignored child listed (inl h) = inl (lists-end f n ending ignored child h).0
ended-in f n ending ignored child listed (inr h) =
    elim (ended-end f n ending ignored child h.0 h.1) [
      | inl old ↦ inr (h.0, old)
      | inr new ↦ inl (subst (λ (c : ℕ). lists f c ≡ true) new.0 listed)
    ]

-- whom the parent lists after an end it listed before
pub listed-end : (k next : Kernel) (parent pid child : ℕ) (row after : Row) (ending : Ending)
    → body_in k (Proc parent) ≡ Living row → lists row.family pid ≡ true → body_in next (Proc parent) ≡ Living after
    → after.family ≡ family_after_end row.family pid ending (ignores_children row)
    → ListsOne next parent child → ListsOne k parent child
listed-end k next parent pid child row after ending was listed is family l =
    lists-by k parent child row was
    (ended-in row.family pid ending (ignores_children row) child listed
    (subst (λ (f : Family). ListsIn f child) family (lists-in next parent child after l is)))
