-- The kernel in which callers wait, and the one that the history in line leads to: they differ in who waits, and in
-- what a doomed process may still do.
use Rattle.std.specs.Prelude.{◌≡◌, ℕ, Option, Some, None}
use Rattle.number_maps.specs.Maps.{get}
use Rattle.kernel_model.specs.Kernel as plain
use Rattle.waiting_model.specs.Kernel.{Kernel, Process, Living, Ended, Gone}
use Rattle.waiting_model.specs.Plain.{each}

-- The same row. A process that isn't doomed may do the same; of a doomed one the one kernel counts a call when it
-- parks, and the other when it has its reply.
abbrev pub AlikeProcess : Process → plain.Process → Type 0
AlikeProcess (Living a) (plain.Living b) =
    (a.row ≡ b.row) × (a.row.signals.doom ≡ None → a.marks.allowance ≡ b.allowance)
AlikeProcess (Ended ending) (plain.Ended other) = ending ≡ other
AlikeProcess Gone plain.Gone = Unit {0}
AlikeProcess process other = ⊥

abbrev pub AlikeAt : Option Process → Option plain.Process → Type 0
AlikeAt None None = Unit {0}
AlikeAt (Some process) (Some other) = AlikeProcess process other
AlikeAt process other = ⊥

pub record IsAlike (whole : Kernel) (k : plain.Kernel) : Type 0 where
  pub processes : (pid : ℕ) → AlikeAt (get whole.processes pid) (get k.processes pid)
  pub queue_keys : whole.queue_keys ≡ k.queue_keys
  pub set_keys : whole.set_keys ≡ k.set_keys
  pub queues : each (λ q. q.state) whole.queues ≡ k.queues
  pub sets : each (λ s. s.state) whole.sets ≡ k.sets
  pub used_processes : whole.used_processes ≡ k.used_processes
  pub used_queues : whole.used_queues ≡ k.used_queues
  pub used_sets : whole.used_sets ≡ k.used_sets
