-- The end of a process, step by step.
use Rattle.std.proofs.Common.{◌≡◌, ◌∙◌, ℕ, Bool, true, false, nat_eq, List, Option, Some, None, is_some, IsSome, IfSome, refl, sym, ap}
use Rattle.std.specs.Option.{option_map, option_map_or}
use Rattle.std.specs.Map.{keys_of}
use Rattle.pico_base.specs.declared.reply.Ending.{Ending}
use Rattle.pico_base.specs.declared.reply.Reply.{Reply}
use Rattle.number_maps.specs.Maps.{Numbered, get, put, is_used}
use Rattle.kernel_model.specs.Row.{Waited, Found, NotYet, NoChild, lists, ignores_children}
use Rattle.waiting_model.specs.Marks.{Alive}
use Rattle.waiting_model.specs.Kernel.{Process, Living, Gone, alive_in, living_in}
use Rattle.waiting_model.specs.ProcessCalls.{process_after_end, end_under, found_after_end, parent_after_end, bury_found, wakes_of_parent}
use Rattle.mono_kernel.specs.Table.{IfLiving, IsThere, IsFoundIn, lists_there, ignores_there, parent_at, as_parent, woken_pairs, woken_by_end}
use Rattle.number_maps.proofs.Changes.{is_used-keys}
use Rattle.mono_kernel.proofs.PutLemmas.{put-apart}
use Rattle.mono_kernel.proofs.TableLemmas.{living-put_other, there-put}

-- the same numbers are there
pub there-same : (ms ns : Numbered Process) (n : ℕ) → keys_of ns ≡ keys_of ms → is_some (get ms n) ≡ true
    → is_some (get ns n) ≡ true
there-same ms ns n same there =
    sym (is_used-keys ns n) ∙ ap (λ (ks : List ℕ). is_used ks n) same ∙ is_used-keys ms n ∙ there

-- a process that has ended doesn't live
pub kept-dead : (ignored : Bool) (ending : Ending) → alive_in (process_after_end ignored ending) ≡ None
kept-dead true ending = refl
kept-dead false ending = refl

-- the parent after the process has been settled
module _ (ps : Numbered Process) (pid parent : ℕ) (v : Process) (apart : nat_eq parent pid ≡ false) where
  pub parent-lives : lists_there ps parent pid ≡ true → IsSome (living_in (put ps pid v) parent)
  parent-lives h = rw (living-put_other ps pid parent v apart) (at (living_in ps parent) h)
    where
      at : (o : Option Alive) → option_map_or (λ a. lists a.row.family pid) o false ≡ true → IsSome o
      at None g = absurd (cc)
      at (Some a) g = refl

  pub parent-lists : lists_there ps parent pid ≡ true
      → IfLiving (put ps pid v) parent (λ a. lists a.row.family pid ≡ true)
  parent-lists h = rw (living-put_other ps pid parent v apart) (at (living_in ps parent) h)
    where
      at : (o : Option Alive) → option_map_or (λ a. lists a.row.family pid) o false ≡ true
          → IfSome o (λ a. lists a.row.family pid ≡ true)
      at None g = tt
      at (Some a) g = g

-- a child that is found is gone whether its parent is put before or after it
pub buried-behind : (ps : Numbered Process) (parent : ℕ) (v : Process) (w : Waited) → IsFoundIn ps parent w
    → bury_found (put ps parent v) w ≡ put (bury_found ps w) parent v
buried-behind ps parent v (Found child ending) found = put-apart ps parent child v Gone found.1
buried-behind ps parent v NotYet found = refl
buried-behind ps parent v NoChild found = refl

-- a child that is found is there still when its parent has changed
pub there-still : (ps : Numbered Process) (parent : ℕ) (v : Process) (w : Waited) → IsFoundIn ps parent w
    → IsThere (put ps parent v) w
there-still ps parent v (Found child ending) found = there-put ps parent child v found.0
there-still ps parent v NotYet found = tt
there-still ps parent v NoChild found = tt

-- where a process lives, what holds of all that may be put there holds
pub there-changed : (ps es : Numbered Process) (parent : ℕ) (f : Alive → Alive) (w : Waited)
    → IsSome (living_in ps parent)
    → IfLiving ps parent (λ a. es ≡ put ps parent (Living (f a)))
    → IsFoundIn ps parent w
    → IsThere es w
there-changed ps es parent f w lives is found = at (living_in ps parent) lives is
  where
    at : (o : Option Alive) → IsSome o → IfSome o (λ a. es ≡ put ps parent (Living (f a))) → IsThere es w
    at None some h = absurd (cc)
    at (Some a) some h = rw h (there-still ps parent (Living (f a)) w found)

-- the parent still lives and lists the child that ended
pub left-under : (ps es ns : Numbered Process) (pid parent : ℕ) (ending : Ending) (w : Waited)
    → nat_eq parent pid ≡ false
    → lists_there ps parent pid ≡ true
    → IfLiving (put ps pid (process_after_end (ignores_there ps parent) ending)) parent
    (λ a. es ≡ put (put ps pid (process_after_end (ignores_there ps parent) ending)) parent
    (Living (parent_after_end a pid ending)))
    → IfLiving (put ps pid (process_after_end (ignores_there ps parent) ending)) parent
    (λ a. w ≡ found_after_end a pid ending)
    → IsFoundIn (put ps pid (process_after_end (ignores_there ps parent) ending)) parent w
    → ns ≡ bury_found es w
    → ns ≡ end_under ps pid ending (parent_at ps (Some parent))
left-under ps es ns pid parent ending w apart h is finds found buried =
    at (living_in ps parent) refl h
    (rw (living-put_other ps pid parent (process_after_end (ignores_there ps parent) ending) apart) at is)
    (rw (living-put_other ps pid parent (process_after_end (ignores_there ps parent) ending) apart) at finds)
  where
    at : (o : Option Alive) → living_in ps parent ≡ o → option_map_or (λ a. lists a.row.family pid) o false ≡ true
        → IfSome o (λ a. es ≡ put (put ps pid (process_after_end (ignores_there ps parent) ending)) parent
        (Living (parent_after_end a pid ending)))
        → IfSome o (λ a. w ≡ found_after_end a pid ending)
        → ns ≡ end_under ps pid ending (option_map (as_parent parent) o)
    at None here g k f = absurd (cc)
    at (Some a) here g k f =
        let ignored : ignores_there ps parent ≡ ignores_children a.row = rw here refl
        in buried ∙ ap (λ (m : Numbered Process). bury_found m w) k
        ∙ buried-behind (put ps pid (process_after_end (ignores_there ps parent) ending)) parent
        (Living (parent_after_end a pid ending)) w found
        ∙ ap (λ (b : Bool). put (bury_found (put ps pid (process_after_end b ending)) w) parent
        (Living (parent_after_end a pid ending))) ignored
        ∙ ap (λ (x : Waited). put (bury_found (put ps pid (process_after_end (ignores_children a.row) ending)) x) parent
        (Living (parent_after_end a pid ending))) f

-- whom the end wakes
pub woken-under : (ps : Numbered Process) (pid parent : ℕ) (ending : Ending) (v : Process) (w : Waited)
    (woken : List (ℕ × Reply))
    → nat_eq parent pid ≡ false
    → lists_there ps parent pid ≡ true
    → IfLiving (put ps pid v) parent (λ a. w ≡ found_after_end a pid ending)
    → woken ≡ woken_pairs (wakes_of_parent parent w)
    → woken ≡ woken_by_end pid ending (parent_at ps (Some parent))
woken-under ps pid parent ending v w woken apart h finds is =
    at (living_in ps parent) h (rw (living-put_other ps pid parent v apart) at finds)
  where
    at : (o : Option Alive) → option_map_or (λ a. lists a.row.family pid) o false ≡ true
        → IfSome o (λ a. w ≡ found_after_end a pid ending)
        → woken ≡ woken_by_end pid ending (option_map (as_parent parent) o)
    at None g f = absurd (cc)
    at (Some a) g f = is ∙ ap (λ (x : Waited). woken_pairs (wakes_of_parent parent x)) f
