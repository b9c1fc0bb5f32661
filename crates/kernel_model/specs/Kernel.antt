-- The kernel of one POSIX system, as one record of plain data.
use Rattle.std.specs.Prelude.{ℕ, List, [], ◌∷◌, Option, Some, None, if◌then◌else◌}
use Rattle.std.specs.Option.{option_and_then}
use Rattle.pico_base.specs.declared.reply.Ending.{Ending}
use Rattle.number_maps.specs.Maps.{Numbered, get, put}
use Rattle.kernel_model.specs.Queue.{Queue}
use Rattle.kernel_model.specs.Row.{Alive, Free, new_row, lists}
use Rattle.kernel_model.specs.SemaphoreSet.{SemaphoreSet}

-- A process lives, has ended and is kept for its parent, or is gone.
pub data Process : Type 0 where
  Living : (alive : Alive) → Process
  Ended : (ending : Ending) → Process
  Gone : Process

-- Processes, queues and sets by number, two tables of keys, and the numbers used so far of each kind. A removed
-- queue or set has its number used and no place in its map. Keys of queues and of sets are apart (System Interfaces
-- 2.7).
pub record Kernel : Type 0 where
  pub processes : Numbered Process
  pub queue_keys : Numbered ℕ
  pub set_keys : Numbered ℕ
  pub queues : Numbered Queue
  pub sets : Numbered SemaphoreSet
  pub used_processes : List ℕ
  pub used_queues : List ℕ
  pub used_sets : List ℕ

-- process 1 lives, with new signals, no children, and free to act (profile: the system begins with one process)
abbrev pub opening : Kernel
opening =
    record {
      processes = (1, Living (record { row = new_row; allowance = Free })) ∷ [];
      queue_keys = [];
      set_keys = [];
      queues = [];
      sets = [];
      used_processes = 1 ∷ [];
      used_queues = [];
      used_sets = [];
    }

abbrev pub alive_in : Process → Option Alive
alive_in (Living alive) = Some alive
alive_in (Ended ending) = None
alive_in Gone = None

-- the living process of a number
abbrev pub living_in : Numbered Process → ℕ → Option Alive
living_in ps pid = option_and_then alive_in (get ps pid)

abbrev pub living_at : Kernel → ℕ → Option Alive
living_at k pid = living_in k.processes pid

-- a living process's parent: the living process that lists it. Where there is none, the process has no parent (profile:
-- `_Exit` makes an implementation-defined system process the parent, which here waits for each child at once)
pub record Parent : Type 0 where
  pub pid : ℕ
  pub alive : Alive

abbrev pub parent_if : ℕ → ℕ → Process → Option Parent → Option Parent
parent_if child pid (Living alive) rest =
    if lists alive.row.family child then Some (record { pid = pid; alive = alive }) else rest
parent_if child pid (Ended ending) rest = rest
parent_if child pid Gone rest = rest

abbrev pub parent_in : ℕ → Numbered Process → Option Parent
parent_in child [] = None
parent_in child (p ∷ ps) = parent_if child p.0 p.1 (parent_in child ps)

abbrev pub with_alive : Kernel → ℕ → Alive → Kernel
with_alive k pid alive = record k { processes = put k.processes pid (Living alive) }
