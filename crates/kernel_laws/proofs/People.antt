-- The map of processes: its numbers are the used ones, something holds of each living process, and the families
-- are in order.
use Rattle.std.proofs.Common.{◌≡◌, ℕ, true, List, [], ◌∷◌, Option, Some, None, refl, ap, sym, subst, ◌∙◌, inl, inr}
use Rattle.std.specs.Prelude.{is_some, fold, Contains}
use Rattle.std.specs.Option.{option_and_then}
use Rattle.std.proofs.lemmas.Bool.{cases_eq}
use Rattle.pico_base.specs.declared.reply.Ending.{Ending}
use Rattle.number_maps.specs.Maps.{Numbered, get, put, is_used, used_with}
use Rattle.kernel_model.specs.Row.{Alive, EndedChild, ended_child}
use Rattle.kernel_model.specs.Kernel.{Process, Living, Ended, Gone, living_in, alive_in}
use Rattle.kernel_model.specs.ProcessCalls.{bury}
use Rattle.kernel_laws.proofs.Plain.{from_some, not_some}
use Rattle.number_maps.proofs.LookUps.{get-put-same, get-put-other}
use Rattle.number_maps.proofs.Sets.{used-with-same, used-with-other}
use Rattle.number_maps.specs.Rising.{IsRising}
use Rattle.number_maps.proofs.Rising.{rising-put}
use Rattle.kernel_laws.proofs.Tables.{there-put}
use Rattle.kernel_laws.proofs.Members.{contains-first, contains-later}
use Rattle.kernel_laws.proofs.Families.{Families, living-gone}

pub record Body (A : ℕ → Alive → Type 0) (ps : Numbered Process) (used : List ℕ) : Type 0 where
  pub rise : IsRising ps
  pub used_is : (n : ℕ) → is_used used n ≡ is_some (get ps n)
  pub each : (p : ℕ) (x : Alive) → get ps p ≡ Some (Living x) → A p x

pub record People (A : ℕ → Alive → Type 0) (ps : Numbered Process) (used : List ℕ) : Type 0 where
  pub body : Body A ps used
  pub families : Families (get ps)

-- what holds of each living process holds of each after one was put
pub each-put : (A : ℕ → Alive → Type 0) (ps : Numbered Process) (k : ℕ) (v : Process)
    → ((p : ℕ) (x : Alive) → get ps p ≡ Some (Living x) → A p x)
    → ((x : Alive) → v ≡ Living x → A k x) → (p : ℕ) (x : Alive) → get (put ps k v) p ≡ Some (Living x) → A p x
each-put A ps k v h own p x g =
    elim (cases_eq p k) [
      | inl same ↦
          let is : v ≡ Living x =
          from_some v (Living x) (sym (get-put-same ps k v) ∙ (ap (get (put ps k v)) (sym same) ∙ g))
          in subst (λ (q : ℕ). A q x) (sym same) (own x is)
      | inr ne ↦ h p x (sym (get-put-other ps k v p ne) ∙ g)
    ]

used-there : (ps : Numbered Process) (k : ℕ) (v : Process) (used : List ℕ)
    → ((n : ℕ) → is_used used n ≡ is_some (get ps n)) → is_some (get ps k) ≡ true
    → (n : ℕ) → is_used used n ≡ is_some (get (put ps k v) n)
used-there ps k v used h there n =
    elim (cases_eq n k) [
      | inl same ↦
          h n ∙ (ap (λ q. is_some (get ps q)) same
          ∙ (there ∙ sym (ap (λ q. is_some (get (put ps k v) q)) same ∙ ap is_some (get-put-same ps k v))))
      | inr ne ↦ h n ∙ sym (ap is_some (get-put-other ps k v n ne))
    ]

-- another process where there was one
pub body-put : (A : ℕ → Alive → Type 0) (ps : Numbered Process) (used : List ℕ) → Body A ps used → (k : ℕ) (v : Process)
    → is_some (get ps k) ≡ true
    → ((x : Alive) → v ≡ Living x → A k x) → Body A (put ps k v) used
body-put A ps used b k v there own =
    record {
      rise = rising-put ps k v b.rise;
      used_is = used-there ps k v used b.used_is there;
      each =
          each-put A ps k v b.each own;
    }

used-new : (ps : Numbered Process) (k : ℕ) (v : Process) (used : List ℕ)
    → ((n : ℕ) → is_used used n ≡ is_some (get ps n))
    → (n : ℕ) → is_used (used_with used k) n ≡ is_some (get (put ps k v) n)
used-new ps k v used h n =
    elim (cases_eq n k) [
      | inl same ↦
          ap (is_used (used_with used k)) same
          ∙ (used-with-same used k
          ∙ sym (ap (λ q. is_some (get (put ps k v) q)) same ∙ ap is_some (get-put-same ps k v)))
      | inr ne ↦ used-with-other used k n ne ∙ (h n ∙ sym (ap is_some (get-put-other ps k v n ne)))
    ]

-- a new process at a new number
pub body-new : (A : ℕ → Alive → Type 0) (ps : Numbered Process) (used : List ℕ) → Body A ps used → (k : ℕ) (v : Process)
    → ((x : Alive) → v ≡ Living x → A k x) → Body A (put ps k v) (used_with used k)
body-new A ps used b k v own =
    record {
      rise = rising-put ps k v b.rise;
      used_is = used-new ps k v used b.used_is;
      each =
          each-put A ps k v b.each own;
    }

-- ended processes that are gone
pub body-buried : (A : ℕ → Alive → Type 0) (es : List EndedChild) (ps : Numbered Process) (used : List ℕ)
    → Body A ps used
    → ((q : ℕ) (d : Ending) → Contains es (ended_child q d) → is_some (get ps q) ≡ true) → Body A (fold bury ps es) used
body-buried A [] ps used b h = b
body-buried A (e ∷ es) ps used b h =
    body-buried A es (bury ps e) used
    (body-put A ps used b e.pid Gone (h e.pid e.ending (contains-first e es)) (λ x g. living-gone x (sym g)))
    (λ q d c. there-put ps e.pid Gone q (h q d (contains-later e es (ended_child q d) c)))

-- a number that was there is there when ended children are forgotten
pub buried-there : (es : List EndedChild) (ps : Numbered Process) (k : ℕ) → is_some (get ps k) ≡ true
    → is_some (get (fold bury ps es) k) ≡ true
buried-there [] ps k h = h
buried-there (e ∷ es) ps k h = buried-there es (bury ps e) k (there-put ps e.pid Gone k h)

-- a living process by its number
abbrev living_of : Option Process → Option Alive
living_of o = option_and_then alive_in o

living-found : (o : Option Process) (a : Alive) → (found : Option Process) → o ≡ found → living_of found ≡ Some a
    → o ≡ Some (Living a)
living-found o a None e h = not_some a h
living-found o a (Some (Living x)) e h = e ∙ ap (λ (y : Alive). Some (Living y)) (from_some x a h)
living-found o a (Some (Ended d)) e h = not_some a h
living-found o a (Some Gone) e h = not_some a h

-- a living process, by what the table has at its number
pub from-living : (ps : Numbered Process) (p : ℕ) (a : Alive) → living_in ps p ≡ Some a → get ps p ≡ Some (Living a)
from-living ps p a h = living-found (get ps p) a (get ps p) refl h

-- and back
pub to-living : (ps : Numbered Process) (p : ℕ) (a : Alive) → get ps p ≡ Some (Living a) → living_in ps p ≡ Some a
to-living ps p a h = ap living_of h

-- where there is no living process, none is found
pub not-living : (ps : Numbered Process) (p : ℕ) (a : Alive) → living_in ps p ≡ None → get ps p ≡ Some (Living a) → ⊥
not-living ps p a h l = not_some {B = ⊥} a (sym h ∙ to-living ps p a l)
