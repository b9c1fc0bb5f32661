-- The table of processes.
use Rattle.std.specs.Prelude.{◌≡◌, ℕ, Bool, true, false, nat_eq, List, [], ◌∷◌, map, fold, Option, Some, None, is_some, IfSome}
use Rattle.std.specs.List.{list_any}
use Rattle.std.specs.Option.{option_map, option_map_or}
use Rattle.pico_base.specs.declared.reply.Ending.{Ending}
use Rattle.pico_base.specs.declared.reply.Reply.{Reply}
use Rattle.number_maps.specs.Maps.{Numbered, get}
use Rattle.kernel_model.specs.Row.{Family, Waited, Found, NotYet, NoChild, lists, ignores_children}
use Rattle.waiting_model.specs.declared.callers.Wake.{Wake}
use Rattle.waiting_model.specs.Marks.{Alive, after_reply}
use Rattle.waiting_model.specs.Effect.{woken_pair}
use Rattle.waiting_model.specs.Kernel.{Process, Parent, living_in, parent_in, change_living}
use Rattle.waiting_model.specs.ProcessCalls.{bury_all, end_under, wakes_under, processes_after_wait}
use Rattle.number_maps.specs.Rising.{IsRising}

-- of the process that lives at a number
abbrev pub IfLiving : Numbered Process → ℕ → (Alive → Type 0) → Type 0
IfLiving ps pid P = IfSome (living_in ps pid) P

-- the child is among the ended ones
abbrev pub keeps : Family → ℕ → Bool
keeps f child = list_any (λ e. nat_eq child e.pid) f.ended

-- the process lives and lists the child
abbrev pub lists_there : Numbered Process → ℕ → ℕ → Bool
lists_there ps pid child = option_map_or (λ a. lists a.row.family child) (living_in ps pid) false

-- the process ignores its ended children, or doesn't live
abbrev pub ignores_there : Numbered Process → ℕ → Bool
ignores_there ps pid = option_map_or (λ a. ignores_children a.row) (living_in ps pid) true

-- Beside the table there is the parent of each process that a living one lists. A listed child is in the table and
-- isn't its own parent, and an ended one that is kept is in the table and doesn't live.
pub record IsTable (ps : Numbered Process) (parents : Numbered ℕ) : Type 0 where
  pub rising : IsRising ps
  pub parent : (p child : ℕ) (a : Alive) → living_in ps p ≡ Some a → lists a.row.family child ≡ true
      → get parents child ≡ Some p
  pub listed : (p child : ℕ) (a : Alive) → living_in ps p ≡ Some a → lists a.row.family child ≡ true
      → (is_some (get ps child) ≡ true) × (nat_eq child p ≡ false)
  pub kept : (p child : ℕ) (a : Alive) → living_in ps p ≡ Some a → keeps a.row.family child ≡ true
      → (is_some (get ps child) ≡ true) × (living_in ps child ≡ None)

-- a process's parent, by number
abbrev pub parent_number : Numbered Process → ℕ → Option ℕ
parent_number ps child = option_map (λ p. p.pid) (parent_in child ps)

-- the living process of a number, as a parent
abbrev pub as_parent : ℕ → Alive → Parent
as_parent pid a = record { pid = pid; alive = a }

abbrev pub parent_at : Numbered Process → Option ℕ → Option Parent
parent_at ps None = None
parent_at ps (Some pid) = option_map (as_parent pid) (living_in ps pid)

-- the table after a waitpid
abbrev pub table_after : Numbered Process → ℕ → Alive → Waited → Numbered Process
table_after ps pid a (Found child ending) = processes_after_wait ps pid a child
table_after ps pid a NotYet = ps
table_after ps pid a NoChild = ps

-- a child that is found is in the table
abbrev pub IsThere : Numbered Process → Waited → Type 0
IsThere ps (Found child ending) = is_some (get ps child) ≡ true
IsThere ps NotYet = Unit {0}
IsThere ps NoChild = Unit {0}

-- and isn't the process that finds it
abbrev pub IsFoundIn : Numbered Process → ℕ → Waited → Type 0
IsFoundIn ps pid (Found child ending) = (is_some (get ps child) ≡ true) × (nat_eq pid child ≡ false)
IsFoundIn ps pid NotYet = Unit {0}
IsFoundIn ps pid NoChild = Unit {0}

-- the table after the end of a process, and whom that wakes
abbrev pub table_after_end : Numbered Process → ℕ → Alive → Ending → Numbered Process
table_after_end ps pid a ending = end_under (bury_all ps a.row.family) pid ending (parent_in pid ps)

abbrev pub woken_pairs : List Wake → List (ℕ × Reply)
woken_pairs wakes = map woken_pair wakes

abbrev pub woken_by_end : ℕ → Ending → Option Parent → List (ℕ × Reply)
woken_by_end pid ending parent = woken_pairs (wakes_under pid ending parent)

abbrev pub listed : {X : Type 0} → Option X → List X
listed None = []
listed (Some x) = x ∷ []

-- each of those who are woken has its reply
abbrev pub answer_one : Numbered Process → ℕ × Reply → Numbered Process
answer_one ps woken = change_living ps woken.0 after_reply

abbrev pub with_answers : Numbered Process → List (ℕ × Reply) → Numbered Process
with_answers ps woken = fold answer_one ps woken
