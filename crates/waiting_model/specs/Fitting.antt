-- A history fits a script: each process makes the calls of its block, in order and each once, and nothing while it
-- waits but its withdrawal.
use Rattle.std.specs.Prelude.{◌≡◌, ◌⊎◌, ℕ, Bool, true, false, List, [], ◌∷◌, fold, if◌then◌else◌, Option, Some, None}
use Rattle.std.specs.List.{AllByRecursion}
use Rattle.pico_base.specs.declared.call.Call.{Call}
use Rattle.pico_base.specs.declared.call.Call.TheVariants as calls
use Rattle.pico_base.specs.declared.reply.Entry.{Entry}
use Rattle.pico_base.specs.declared.reply.Reply.{Reply}
use Rattle.pico_base.specs.declared.reply.Reply.TheVariants as replies
use Rattle.pico_base.specs.declared.script.Script.{Script}
use Rattle.number_maps.specs.Maps.{Numbered, get, put}
use Rattle.kernel_model.specs.Fitting.{Place, IsDue, due, place_after, move_on, block_place, block_at, child_vars}

-- How far a process is: its place in its block, and whether the call that is due there waits. Then nothing is due.
pub record Progress : Type 0 where
  pub place : Place
  pub parked : Bool

abbrev pub at_place : Place → Progress
at_place place = record { place = place; parked = false }

-- a call without a reply waits where it is
abbrev pub after_own : Place → Call → Option Reply → Progress
after_own place call None = record { place = place; parked = true }
after_own place call (Some reply) = at_place (move_on place call (Some reply))

-- the reply to the call that waits is that of the wake or of the withdrawal
abbrev pub answered : Place → Option Call → Reply → Place
answered place None reply = place
answered place (Some call) reply = place_after place call (Some reply)

abbrev pub after_wake : Reply → Progress → Progress
after_wake reply p = if p.parked then at_place (answered p.place (due p.place) reply) else p

abbrev pub after_withdrawal : Option Reply → Progress → Progress
after_withdrawal None p = p
after_withdrawal (Some reply) p = after_wake reply p

abbrev pub after_entry : Call → Option Reply → Progress → Progress
after_entry (calls.Withdraw name) own p = after_withdrawal own p
after_entry call own p = after_own p.place call own

-- how far each process is, by its number; process 1 begins at block 1, with no variable set
abbrev pub Places : Type 0
Places = Numbered Progress

abbrev pub opening_places : Script → Places
opening_places script = (1, at_place (block_place (block_at script 1) [])) ∷ []

-- a forked process begins with the variables that its parent had before the line, the one that it sets at 0
abbrev pub after_fork : Script → Places → Place → Call → Option Reply → Places
after_fork script places parent (calls.Fork block) (Some (replies.Num child)) =
    put places child (at_place (block_place (block_at script block) (child_vars parent)))
after_fork script places parent call own = places

-- those who are woken go on
abbrev pub woken_at : Places → ℕ × Reply → Option Progress → Places
woken_at places w None = places
woken_at places w (Some p) = put places w.0 (after_wake w.1 p)

abbrev pub after_woken : Places → ℕ × Reply → Places
after_woken places w = woken_at places w (get places w.0)

-- the places after an entry of a process that was so far
abbrev pub places_after : Script → Places → Entry → Progress → Places
places_after script places e p =
    fold after_woken
    (after_fork script (put places e.pid (after_entry e.call e.outcome.own p)) p.place e.call e.outcome.own)
    e.outcome.woken

-- the call due, or the end by a signal in its place; a process that waits makes nothing but its withdrawal
abbrev pub IsNext : Progress → Call → Type 0
IsNext p (calls.Withdraw name) = p.parked ≡ true
IsNext p call = (p.parked ≡ false) × IsDue p.place call

-- an entry is of a process that was forked, or of process 1, and makes what is next; the rest goes on from there
pub record FitsEntry (script : Script) (places : Places) (e : Entry) (Rest : Places → Type 0) : Type 0 where
  pub progress : Progress
  pub there : get places e.pid ≡ Some progress
  pub next : IsNext progress e.call
  pub rest : Rest (places_after script places e progress)

-- entry by entry, from these places to the last ones
abbrev pub FitsFrom : Script → Places → List Entry → Places → Type 0
FitsFrom script places [] last = places ≡ last
FitsFrom script places (e ∷ es) last = FitsEntry script places e (λ next. FitsFrom script next es last)

pub record Fits (script : Script) (history : List Entry) : Type 0 where
  pub last : Places
  pub fits : FitsFrom script (opening_places script) history last

-- nothing is due any more at a place, or the call that is due waits
abbrev pub IsOver : ℕ × Progress → Type 0
IsOver p = (p.1.place.left ≡ []) ⊎ (p.1.parked ≡ true)

-- the history fits to its end: each process that was forked, and process 1, has ended, or waits
pub record FitsWhole (script : Script) (history : List Entry) : Type 0 where
  pub last : Places
  pub fits : FitsFrom script (opening_places script) history last
  pub over : AllByRecursion IsOver last
