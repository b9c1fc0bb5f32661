-- The kernel of one system with POSIX message queues, as one record of plain data.
use Rattle.std.specs.Prelude.{ℕ, List, [], ◌∷◌}
use Rattle.number_maps.specs.Maps.{Numbered}
use Rattle.kernel_model.specs.SemaphoreSet.{SemaphoreSet}
use Rattle.waiting_model.specs.Kernel as plain
use Rattle.waiting_model.specs.Kernel.{Process}
use Rattle.waiting_model.specs.Marks.{new_alive}
use Rattle.waiting_model.specs.Waiters.{Awaited}
use Rattle.mq_model.specs.Queue.{Queue}

-- Processes, queues and sets by number, the numbers of the names of queues, the identifiers of the keys of sets, and
-- the numbers used so far of each kind.
pub record MqKernel : Type 0 where
  pub processes : Numbered Process
  pub names : Numbered ℕ
  pub set_keys : Numbered ℕ
  pub queues : Numbered Queue
  pub sets : Numbered (Awaited SemaphoreSet)
  pub used_processes : List ℕ
  pub used_queues : List ℕ
  pub used_sets : List ℕ

-- process 1 lives, with new signals, no children, and free to act; it isn't parked, and nothing has struck it
abbrev pub opening : MqKernel
opening =
    record {
      processes = (1, plain.Living new_alive) ∷ [];
      names = [];
      set_keys = [];
      queues = [];
      sets = [];
      used_processes = 1 ∷ [];
      used_queues = [];
      used_sets = [];
    }

-- What the other calls look at and change: the kernel without its queues, as one of System V that has none
abbrev pub without_queues : MqKernel → plain.Kernel
without_queues k =
    record {
      processes = k.processes;
      queue_keys = [];
      set_keys = k.set_keys;
      queues = [];
      sets = k.sets;
      used_processes = k.used_processes;
      used_queues = [];
      used_sets = k.used_sets;
    }

-- the queues of this kernel beside the rest of the other
abbrev pub beside : MqKernel → plain.Kernel → MqKernel
beside k rest =
    record k {
      processes = rest.processes;
      set_keys = rest.set_keys;
      sets = rest.sets;
      used_processes = rest.used_processes;
      used_sets = rest.used_sets;
    }
