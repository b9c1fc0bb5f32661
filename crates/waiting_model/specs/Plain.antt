-- A kernel as it is where nobody waits: without waiters, and without the marks of those who wait.
use Rattle.std.specs.Prelude.{◌≡◌, [], map, None}
use Rattle.std.specs.List.{AllByRecursion}
use Rattle.number_maps.specs.Maps.{Numbered}
use Rattle.number_maps.specs.Rising.{IsRising}
use Rattle.kernel_model.specs.Kernel as plain
use Rattle.waiting_model.specs.Marks.{plain_alive}
use Rattle.waiting_model.specs.Kernel.{Kernel, Process, Living, Ended, Gone, Parent}

-- the same map with other values
abbrev pub each : {A B : Type 0} → (A → B) → Numbered A → Numbered B
each f m = map (λ e. (e.0, f e.1)) m

abbrev pub plain_process : Process → plain.Process
plain_process (Living a) = plain.Living (plain_alive a)
plain_process (Ended ending) = plain.Ended ending
plain_process Gone = plain.Gone

abbrev pub plain_parent : Parent → plain.Parent
plain_parent p = record { pid = p.pid; alive = plain_alive p.alive }

abbrev pub plain_kernel : Kernel → plain.Kernel
plain_kernel k =
    record {
      processes = each plain_process k.processes;
      queue_keys = k.queue_keys;
      set_keys = k.set_keys;
      queues = each (λ q. q.state) k.queues;
      sets = each (λ s. s.state) k.sets;
      used_processes = k.used_processes;
      used_queues = k.used_queues;
      used_sets = k.used_sets;
    }

-- all values of a map
abbrev pub AllValues : {V : Type 0} → (V → Type 0) → Numbered V → Type 0
AllValues P m = AllByRecursion (λ e. P e.1) m

abbrev pub IsUnparked : Process → Type 0
IsUnparked (Living a) = a.marks.parked ≡ None
IsUnparked (Ended ending) = Unit {0}
IsUnparked Gone = Unit {0}

-- Nobody is parked, and nobody waits at a queue or a set. Their maps are in order, as those of each reachable kernel.
pub record NobodyWaits (k : Kernel) : Type 0 where
  pub processes : AllValues IsUnparked k.processes
  pub queues : AllValues (λ q. q.waiters ≡ []) k.queues
  pub sets : AllValues (λ s. s.waiters ≡ []) k.sets
  pub queues_rise : IsRising k.queues
  pub sets_rise : IsRising k.sets
