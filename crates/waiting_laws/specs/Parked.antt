-- A process is parked with a call at a queue or a set exactly where it is among those who wait there, with that call.
use Rattle.std.specs.Prelude.{◌≡◌, ℕ, Bool, nat_eq, if◌then◌else◌, List, [], ◌∷◌, Option, Some, None}
use Rattle.pico_base.specs.declared.call.Call.{Call}
use Rattle.pico_base.specs.declared.call.Call.TheVariants as calls
use Rattle.pico_base.specs.declared.numbers.Name.{Name}
use Rattle.pico_base.specs.declared.numbers.Name.TheVariants.{Msg, Sem}
use Rattle.pico_base.specs.declared.reply.Entry.{Entry}
use Rattle.number_maps.specs.Maps.{Numbered, get}
use Rattle.kernel_model.specs.Row.{NotYet, wait}
use Rattle.waiting_model.specs.declared.callers.Waiting.{Waiting}
use Rattle.waiting_model.specs.Calls.{waits_at, is_same_name}
use Rattle.waiting_model.specs.Waiters.{Awaited}
use Rattle.waiting_model.specs.Marks.{Alive}
use Rattle.waiting_model.specs.Kernel.{Kernel, Process, opening, living_in}
use Rattle.waiting_model.specs.History.{Replays}
use Rattle.waiting_model.specs.Plain.{AllValues}

-- the call with which a process waits among these, if it is one of them
abbrev pub wait_of : ℕ → List Waiting → Option Call
wait_of pid [] = None
wait_of pid (w ∷ ws) = if nat_eq pid w.pid then Some w.call else wait_of pid ws

abbrev pub wait_in : {T : Type 0} → ℕ → Option (Awaited T) → Option Call
wait_in pid None = None
wait_in pid (Some object) = wait_of pid object.waiters

-- no process is among these twice
abbrev pub WaitOnce : List Waiting → Type 0
WaitOnce [] = Unit {0}
WaitOnce (w ∷ ws) = (wait_of w.pid ws ≡ None) × WaitOnce ws

-- the call with which a process is marked as parked, where that waits at this name
abbrev pub mark_at : ℕ → Name → Option Call → Option Call
mark_at pid name None = None
mark_at pid name (Some call) = if is_same_name name (waits_at pid call) then Some call else None

abbrev pub mark_of : Option Alive → Option Call
mark_of None = None
mark_of (Some a) = a.marks.parked

-- the mark of a number's living process
abbrev pub mark_in : Numbered Process → ℕ → Option Call
mark_in ps pid = mark_of (living_in ps pid)

pub record MarksAreWaits (k : Kernel) : Type 0 where
  pub queues : (id pid : ℕ) → wait_in pid (get k.queues id) ≡ mark_at pid (Msg id) (mark_in k.processes pid)
  pub sets : (id pid : ℕ) → wait_in pid (get k.sets id) ≡ mark_at pid (Sem id) (mark_in k.processes pid)
  pub queues_once : AllValues (λ q. WaitOnce q.waiters) k.queues
  pub sets_once : AllValues (λ s. WaitOnce s.waiters) k.sets

-- so it is in each kernel that a legal history leads to
abbrev pub ReachableMarksAreWaits : Type 0
ReachableMarksAreWaits = (h : List Entry) (k : Kernel) → Replays opening h k → MarksAreWaits k

-- A process that is parked in waitpid has no ended child that matches, and a living one that does.
abbrev pub ReachableWaitsFindNothing : Type 0
ReachableWaitsFindNothing = (h : List Entry) (k : Kernel) → Replays opening h k → (pid : ℕ) (a : Alive)
    → (child : Option ℕ) (nohang : Bool) → living_in k.processes pid ≡ Some a
    → a.marks.parked ≡ Some (calls.WaitPid child nohang) → wait a.row.family child ≡ NotYet
