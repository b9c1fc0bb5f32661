-- The ended children of a living process are in the table, and don't live.
use Rattle.std.proofs.Common.{◌≡◌, ◌<◌, ◌∙◌, ◌⊎◌, inl, inr, ℕ, zero, suc, Bool, true, false, ◌||◌, if◌then◌else◌, nat_eq, List, [], ◌∷◌, length, get_or, Option, Some, None, is_some, IfSome, IsSome, refl, sym, ap, arith}
use Rattle.std.proofs.Math.Bool.{or-true}
use Rattle.std.specs.List.{All, list_any, fold}
use Rattle.std.specs.Option.{option_map, option_map_or, option_and_then}
use Rattle.pico_base.specs.declared.reply.Ending.{Ending}
use Rattle.number_maps.specs.Maps.{Numbered, get, put}
use Rattle.kernel_model.specs.Row.{Family, Waited, Found, NotYet, NoChild, lists, matches, first_ended_child, family_after_end, ignores_children, wait, wait_result, EndedChild}
use Rattle.waiting_model.specs.Marks.{Alive, awaited_children}
use Rattle.waiting_model.specs.Kernel.{Process, Gone, alive_in, living_in, parent_in}
use Rattle.waiting_model.specs.ProcessCalls.{bury, end_under, found_for, found_after_end}
use Rattle.mono_kernel.specs.Table.{IsTable, IfLiving, IsThere, IsFoundIn, keeps, lists_there, parent_at, as_parent, table_after_end}
use Rattle.mono_kernel.proofs.TableLemmas.{living-put_same, living-put_other, kept-or-ended}
use Rattle.number_maps.proofs.Order.{same-from-nat_eq, eq-same}

-- the ended child that is found is among them
pub found-kept : (which : Option ℕ) (es : List EndedChild)
    → IfSome (first_ended_child which es) (λ e. list_any (λ x. nat_eq e.pid x.pid) es ≡ true)
found-kept which [] = tt
found-kept which (e ∷ es) = at (matches which e.pid) (first_ended_child which es) (found-kept which es)
  where
    here : (any : Bool) → (nat_eq e.pid e.pid || any) ≡ true
    here any = rw (eq-same e.pid)

    at : (b : Bool) (o : Option EndedChild) → IfSome o (λ x. list_any (λ y. nat_eq x.pid y.pid) es ≡ true)
        → IfSome (if b then Some e else o) (λ x. list_any (λ y. nat_eq x.pid y.pid) (e ∷ es) ≡ true)
    at true o rec = here (list_any (λ y. nat_eq e.pid y.pid) es)
    at false None rec = tt
    at false (Some x) rec = rw rec (or-true (nat_eq x.pid e.pid))

-- the child that `waitpid` finds is kept
pub waited-kept : (f : Family) (which : Option ℕ) (child : ℕ) (ending : Ending) → wait f which ≡ Found child ending
    → keeps f child ≡ true
waited-kept f which child ending is = at (first_ended_child which f.ended) (found-kept which f.ended) is
  where
    none : (b : Bool) → wait_result None b ≡ Found child ending → keeps f child ≡ true
    none true h = absurd (cc)
    none false h = absurd (cc)

    at : (o : Option EndedChild) → IfSome o (λ e. list_any (λ x. nat_eq e.pid x.pid) f.ended ≡ true)
        → wait_result o (list_any (matches which) f.living) ≡ Found child ending
        → keeps f child ≡ true
    at None h g = none (list_any (matches which) f.living) g
    at (Some e) h g = let same : child ≡ e.pid = cc in rw same h

-- a child that `waitpid` finds is in the table
pub found-there : (ps : Numbered Process) (parents : Numbered ℕ) (pid : ℕ) (a : Alive) (which : Option ℕ)
    → IsTable ps parents
    → living_in ps pid ≡ Some a
    → IsThere ps (wait a.row.family which)
found-there ps parents pid a which t lives = at (wait a.row.family which) refl
  where
    at : (w : Waited) → wait a.row.family which ≡ w → IsThere ps w
    at (Found child ending) is = (t.kept pid child a lives (waited-kept a.row.family which child ending is)).0
    at NotYet is = tt
    at NoChild is = tt

-- the child that a parent finds at a child's end is in the table, and isn't the parent
pub found-in : (ps : Numbered Process) (parents : Numbered ℕ) (pid c : ℕ) (ending : Ending) (w : Waited)
    → IsTable ps parents
    → IsSome (living_in ps pid)
    → IfLiving ps pid (λ a. lists a.row.family c ≡ true)
    → IfLiving ps pid (λ a. w ≡ found_after_end a c ending)
    → IsFoundIn ps pid w
found-in ps parents pid c ending w t lives listed is = at (living_in ps pid) refl lives listed is
  where
    flip : (a b : ℕ) → nat_eq a b ≡ false → nat_eq b a ≡ false
    flip a b g = grind arith

    at : (o : Option Alive) → living_in ps pid ≡ o → IsSome o → IfSome o (λ a. lists a.row.family c ≡ true)
        → IfSome o (λ a. w ≡ found_after_end a c ending)
        → IsFoundIn ps pid w
    at None here some l h = absurd (cc)
    at (Some a) here some l h = rw h (waiting (awaited_children a.marks.parked))
      where
        apart : (child : ℕ) → living_in ps child ≡ None → (b : Bool) → nat_eq pid child ≡ b → b ≡ false
        apart child none true same =
            let some : living_in ps child ≡ Some a = rw (← same-from-nat_eq pid child same) here in absurd (cc)
        apart child none false same = refl

        one : (child : ℕ) → (keeps a.row.family child ≡ true) ⊎ (child ≡ c)
            → (is_some (get ps child) ≡ true) × (nat_eq pid child ≡ false)
        one child (inl k) =
            let kept = t.kept pid child a here k in (kept.0, apart child kept.1 (nat_eq pid child) refl)
        one child (inr same) = let o = t.listed pid c a here l in (rw same o.0, rw same (flip c pid o.1))

        found : (v : Waited)
            → ((child : ℕ) (e : Ending) → v ≡ Found child e
            → keeps (family_after_end a.row.family c ending (ignores_children a.row)) child ≡ true)
            → IsFoundIn ps pid v
        found (Found child e) kept =
            one child (kept-or-ended a.row.family c ending (ignores_children a.row) child (kept child e refl))
        found NotYet kept = tt
        found NoChild kept = tt

        waiting : (o : Option (Option ℕ)) → IsFoundIn ps pid
            (found_for (family_after_end a.row.family c ending (ignores_children a.row)) o)
        waiting None = tt
        waiting (Some which) =
            found (wait (family_after_end a.row.family c ending (ignores_children a.row)) which)
            (λ child e is.
            waited-kept (family_after_end a.row.family c ending (ignores_children a.row)) which child e is)

-- each of the ended children is among them
kept-at : (es : List EndedChild) (k : ℕ) (d : EndedChild) → k < length es
    → list_any (λ x. nat_eq (get_or es k d).pid x.pid) es ≡ true
kept-at [] k d inside = absurd (omega arith)
kept-at (e ∷ es) zero d inside = rw (eq-same e.pid)
kept-at (e ∷ es) (suc k) d inside = rw (kept-at es k d (omega arith)) (or-true (nat_eq (get_or es k d).pid e.pid))

-- each ended child that is kept is in the table and doesn't live
pub all-kept : (ps : Numbered Process) (parents : Numbered ℕ) (pid : ℕ) (a : Alive) → IsTable ps parents
    → living_in ps pid ≡ Some a
    → All (λ e. (is_some (get ps e.pid) ≡ true) × (living_in ps e.pid ≡ None)) a.row.family.ended
all-kept ps parents pid a t lives =
    λ k d inside. t.kept pid (get_or a.row.family.ended k d).pid a lives (kept-at a.row.family.ended k d inside)

-- a living process lives on while others are buried
dead-put : (ps : Numbered Process) (k q : ℕ) → living_in ps q ≡ None → living_in (put ps k Gone) q ≡ None
dead-put ps k q none = at (nat_eq q k) refl
  where
    at : (b : Bool) → nat_eq q k ≡ b → living_in (put ps k Gone) q ≡ None
    at true is = rw (same-from-nat_eq q k is) (living-put_same ps k Gone)
    at false is = living-put_other ps k q Gone is ∙ none

pub buried-lives : (es : List EndedChild) (ps : Numbered Process) (p : ℕ) (a : Alive)
    → All (λ e. living_in ps e.pid ≡ None) es
    → living_in ps p ≡ Some a → living_in (fold bury ps es) p ≡ Some a
buried-lives [] ps p a dead lives = lives
buried-lives (e ∷ es) ps p a dead lives =
    buried-lives es (bury ps e) p a
    (λ k d inside. dead-put ps e.pid (get_or es k d).pid (dead (suc k) d (omega arith)))
    (at (nat_eq p e.pid) refl)
  where
    at : (b : Bool) → nat_eq p e.pid ≡ b → living_in (bury ps e) p ≡ Some a
    at true is =
        let none : living_in ps e.pid ≡ None = dead zero e (omega arith)
        in let some : living_in ps e.pid ≡ Some a = rw (← same-from-nat_eq p e.pid is) lives
        in cc
    at false is = living-put_other ps e.pid p Gone is ∙ lives

parent-there : (ps : Numbered Process) (p child : ℕ) → lists_there ps p child ≡ true → (a : Alive)
    × (living_in ps p ≡ Some a)
parent-there ps p child h = at (living_in ps p) refl h
  where
    at : (o : Option Alive) → living_in ps p ≡ o → option_map_or (λ a. lists a.row.family child) o false ≡ true
        → (a : Alive) × (living_in ps p ≡ Some a)
    at None is g = absurd (cc)
    at (Some a) is g = (a, is)

-- the parent is the same after the burials, and lists the child still
pub parent-after : (ps : Numbered Process) (es : List EndedChild) (child : ℕ) (parent : Option ℕ)
    → All (λ e. living_in ps e.pid ≡ None) es
    → IfSome parent (λ p. (lists_there ps p child ≡ true) × (nat_eq p child ≡ false))
    → parent_at (fold bury ps es) parent ≡ parent_at ps parent
parent-after ps es child None dead h = refl
parent-after ps es child (Some p) dead h =
    let l = parent-there ps p child h.0
    in ap (option_map (as_parent p)) (buried-lives es ps p l.0 dead l.1 ∙ sym l.1)

-- forgetting ended children leaves the parent of a child as it was
pub listed-after : (ps : Numbered Process) (es : List EndedChild) (child : ℕ) (parent : Option ℕ)
    → All (λ e. living_in ps e.pid ≡ None) es
    → IfSome parent (λ p. (lists_there ps p child ≡ true) × (nat_eq p child ≡ false))
    → IfSome parent (λ p. (lists_there (fold bury ps es) p child ≡ true) × (nat_eq p child ≡ false))
listed-after ps es child None dead h = tt
listed-after ps es child (Some p) dead h =
    let l = parent-there ps p child h.0
    in let still : living_in (fold bury ps es) p ≡ living_in ps p = buried-lives es ps p l.0 dead l.1 ∙ sym l.1
    in (ap (λ (o : Option Alive). option_map_or (λ a. lists a.row.family child) o false) still ∙ h.0, h.1)

-- the whole end
pub end-is : (ps ns : Numbered Process) (pid : ℕ) (ending : Ending) (es : List EndedChild) (parent : Option ℕ)
    → IfLiving ps pid (λ a. es ≡ a.row.family.ended) → parent_in pid ps ≡ parent_at ps parent
    → parent_at (fold bury ps es) parent ≡ parent_at ps parent
    → ns ≡ end_under (fold bury ps es) pid ending (parent_at (fold bury ps es) parent)
    → IfLiving ps pid (λ a. ns ≡ table_after_end ps pid a ending)
end-is ps ns pid ending es parent children found same left = at (living_in ps pid) children
  where
    at : (o : Option Alive) → IfSome o (λ a. es ≡ a.row.family.ended)
        → IfSome o (λ a. ns ≡ table_after_end ps pid a ending)
    at None h = tt
    at (Some a) h = rw (← h, found, ← same) left

-- what is put where nothing was leaves each process that lives
pub living-beside : (ps : Numbered Process) (pid child : ℕ) (v : Process) → get ps child ≡ None
    → IsSome (living_in ps pid)
    → living_in (put ps child v) pid ≡ living_in ps pid
living-beside ps pid child v fresh lives = at (nat_eq pid child) refl
  where
    at : (b : Bool) → nat_eq pid child ≡ b → living_in (put ps child v) pid ≡ living_in ps pid
    at true is =
        let none : get ps pid ≡ None = rw (same-from-nat_eq pid child is) fresh
        in let no : living_in ps pid ≡ None = ap (option_and_then alive_in) none
        in absurd (let some : is_some (living_in ps pid) ≡ true = lives in cc)
    at false is = living-put_other ps child pid v is
