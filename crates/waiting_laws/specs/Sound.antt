-- The kernels that legal histories lead to, with callers that wait, by what is needed of them.
use Rattle.std.specs.Prelude.{◌≡◌, ℕ, Bool, Option, Some}
use Rattle.pico_base.specs.declared.call.Call.{Call}
use Rattle.pico_base.specs.declared.call.Call.TheVariants as calls
use Rattle.number_maps.specs.Rising.{IsRising}
use Rattle.kernel_model.specs.Row.{NotYet, wait}
use Rattle.kernel_model.specs.Valid.{IsValid}
use Rattle.kernel_laws.specs.Processes.{NoneListsItself}
use Rattle.waiting_model.specs.Marks.{Alive}
use Rattle.waiting_model.specs.Kernel.{Kernel, living_at}
use Rattle.waiting_model.specs.Plain.{plain_kernel}
use Rattle.waiting_model.specs.Transition.{Successor, transition}
use Rattle.waiting_laws.specs.Parked.{MarksAreWaits}
use Rattle.waiting_laws.specs.Settled.{NobodyCouldGoOn}

-- A process that is parked in waitpid has no ended child that matches, and a living one that does: otherwise its call
-- would have had its reply.
abbrev pub WaitsFindNothing : Kernel → Type 0
WaitsFindNothing k = (pid : ℕ) (a : Alive) (child : Option ℕ) (nohang : Bool) → living_at k pid ≡ Some a
    → a.marks.parked ≡ Some (calls.WaitPid child nohang) → wait a.row.family child ≡ NotYet

-- Without those who wait it is a valid kernel in which no process lists itself; a process is parked exactly where it is
-- among those who wait; and nobody waits whose call could go on.
pub record IsSound (k : Kernel) : Type 0 where
  pub valid : IsValid (plain_kernel k)
  pub alone : NoneListsItself (plain_kernel k)
  pub processes : IsRising k.processes
  pub queues : IsRising k.queues
  pub sets : IsRising k.sets
  pub marks : MarksAreWaits k
  pub waits : WaitsFindNothing k
  pub settled : NobodyCouldGoOn k

-- each entry leads from such a kernel to one of that kind, whether a history leads to it or not
abbrev pub EntriesKeepSoundness : Type 0
EntriesKeepSoundness =
    (k : Kernel) (pid : ℕ) (call : Call) (n : ℕ) (s : Successor) → IsSound k → transition k pid call n ≡ Some s
    → IsSound s.kernel
