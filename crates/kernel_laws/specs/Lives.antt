-- A process lives, ends and is gone, and never the other way.
use Rattle.std.specs.Prelude.{◌≡◌, ◌⊎◌, ℕ, List, Some}
use Rattle.pico_base.specs.declared.reply.Entry.{Entry}
use Rattle.number_maps.specs.Maps.{get}
use Rattle.kernel_model.specs.Kernel.{Kernel, Process, Living, Ended, Gone}
use Rattle.kernel_model.specs.History.{Replays}
use Rattle.kernel_laws.specs.Reachable.{IsReachableKernel}

-- what a process may be later: once ended, it has that ending until it is gone; once gone, it is gone
abbrev pub MayBecome : Process → Process → Type 0
MayBecome (Living a) later = Unit {0}
MayBecome (Ended e) later = (later ≡ Ended e) ⊎ (later ≡ Gone)
MayBecome Gone later = later ≡ Gone

abbrev pub LivesGoOneWay : Type 0
LivesGoOneWay =
    (k last : Kernel) (entries : List Entry) → IsReachableKernel k → Replays k entries last
    → (pid : ℕ) (p : Process) → get k.processes pid ≡ Some p
    → (later : Process) × (get last.processes pid ≡ Some later) × MayBecome p later
