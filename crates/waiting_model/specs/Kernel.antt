-- The kernel of one POSIX system in which callers wait, as one record of plain data.
use Rattle.std.specs.Prelude.{ℕ, nat_eq, List, [], ◌∷◌, map, fold, Option, Some, None, if◌then◌else◌}
use Rattle.std.specs.Option.{option_and_then}
use Rattle.pico_base.specs.declared.reply.Ending.{Ending}
use Rattle.number_maps.specs.Maps.{Numbered, get, put}
use Rattle.kernel_model.specs.Queue.{Queue}
use Rattle.kernel_model.specs.Row.{lists}
use Rattle.kernel_model.specs.SemaphoreSet.{SemaphoreSet}
use Rattle.waiting_model.specs.Marks.{Alive, new_alive, after_reply}
use Rattle.waiting_model.specs.declared.callers.Wake.{Wake}
use Rattle.waiting_model.specs.Waiters.{Awaited}

-- A process lives, has ended and is kept for its parent, or is gone.
pub data Process : Type 0 where
  Living : (alive : Alive) → Process
  Ended : (ending : Ending) → Process
  Gone : Process

-- Processes, queues and sets by number, each queue and set with those who wait at it, two tables of keys, and the
-- numbers used so far of each kind. A removed queue or set has its number used and no place in its map.
pub record Kernel : Type 0 where
  pub processes : Numbered Process
  pub queue_keys : Numbered ℕ
  pub set_keys : Numbered ℕ
  pub queues : Numbered (Awaited Queue)
  pub sets : Numbered (Awaited SemaphoreSet)
  pub used_processes : List ℕ
  pub used_queues : List ℕ
  pub used_sets : List ℕ

-- process 1 lives, with new signals, no children, and free to act; it isn't parked, and nothing has struck it
abbrev pub opening : Kernel
opening =
    record {
      processes = (1, Living new_alive) ∷ [];
      queue_keys = [];
      set_keys = [];
      queues = [];
      sets = [];
      used_processes = 1 ∷ [];
      used_queues = [];
      used_sets = [];
    }

abbrev pub alive_in : Process → Option Alive
alive_in (Living alive) = Some alive
alive_in (Ended ending) = None
alive_in Gone = None

-- the living process of a number
abbrev pub living_in : Numbered Process → ℕ → Option Alive
living_in ps pid = option_and_then alive_in (get ps pid)

abbrev pub living_at : Kernel → ℕ → Option Alive
living_at k pid = living_in k.processes pid

-- a living process's parent: the living process that lists it, if there is one
pub record Parent : Type 0 where
  pub pid : ℕ
  pub alive : Alive

abbrev pub parent_if : ℕ → ℕ → Process → Option Parent → Option Parent
parent_if child pid (Living alive) rest =
    if lists alive.row.family child then Some (record { pid = pid; alive = alive }) else rest
parent_if child pid (Ended ending) rest = rest
parent_if child pid Gone rest = rest

abbrev pub parent_in : ℕ → Numbered Process → Option Parent
parent_in child [] = None
parent_in child (p ∷ ps) = parent_if child p.0 p.1 (parent_in child ps)

abbrev pub with_alive : Kernel → ℕ → Alive → Kernel
with_alive k pid alive = record k { processes = put k.processes pid (Living alive) }

-- The process of a number changes where it lives; where there is none nothing changes.

abbrev pub where_living : (Alive → Alive) → Process → Process
where_living f (Living alive) = Living (f alive)
where_living f (Ended ending) = Ended ending
where_living f Gone = Gone

abbrev pub change_if : ℕ → (Alive → Alive) → ℕ × Process → ℕ × Process
change_if pid f p = (p.0, if nat_eq pid p.0 then where_living f p.1 else p.1)

abbrev pub change_living : Numbered Process → ℕ → (Alive → Alive) → Numbered Process
change_living ps pid f = map (change_if pid f) ps

-- each of those who are woken has its reply
abbrev pub wake_one : Numbered Process → Wake → Numbered Process
wake_one ps w = change_living ps w.pid after_reply

abbrev pub wake_all : Kernel → List Wake → Kernel
wake_all k wakes = record k { processes = fold wake_one k.processes wakes }
