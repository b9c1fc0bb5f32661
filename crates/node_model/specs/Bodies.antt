-- What a node holds: for each name that it owns, its body, which is the kernel's part for the name. Those who wait at a
-- queue or a set are part of its body, each with the node and the ticket of its call, which the kernel doesn't have.
use Rattle.std.specs.Prelude.{ℕ, Bool, true, false, List, [], ◌∷◌, Option, Some, None}
use Rattle.pico_base.specs.declared.numbers.Name.{Name}
use Rattle.pico_base.specs.declared.numbers.Name.TheVariants.{Proc, Msg, Sem}
use Rattle.pico_base.specs.declared.reply.Ending.{Ending}
use Rattle.number_maps.specs.Maps.{Numbered, get}
use Rattle.kernel_model.specs.Queue.{Queue}
use Rattle.kernel_model.specs.SemaphoreSet.{SemaphoreSet}
use Rattle.kernel_model.specs.Row.{Row}
use Rattle.waiting_model.specs.declared.callers.Waiting.{Waiting}
use Rattle.kernel_model.specs.Kernel as plain
use Rattle.waiting_model.specs.Waiters.{Awaited, erased, unawaited}
use Rattle.waiting_model.specs.Marks.{Alive, new_marks}
use Rattle.waiting_model.specs.Kernel.{Kernel, Process}
use Rattle.waiting_model.specs.Kernel as kernel
use Rattle.node_model.specs.Kinds.{Named}

-- a process's row, without its marks; how it ended; that it is gone; a queue, or a set, with those who wait there; or
-- that it was removed
pub data Body : Type 0 where
  Living : (row : Row) → Body
  Ended : (ending : Ending) → Body
  Gone : Body
  AQueue : (queue : Awaited Queue) → Body
  ASet : (set : Awaited SemaphoreSet) → Body
  Removed : Body

-- the deeds that a node holds
abbrev pub Deeds : Type 0
Deeds = Named Body

-- ---- a name's part of a kernel

-- of the kernel in which nobody waits

abbrev pub process_body : Option plain.Process → Body
process_body None = Gone
process_body (Some (plain.Living alive)) = Living alive.row
process_body (Some (plain.Ended ending)) = Ended ending
process_body (Some plain.Gone) = Gone

abbrev pub queue_body : Option Queue → Body
queue_body None = Removed
queue_body (Some queue) = AQueue (unawaited queue)

abbrev pub set_body : Option SemaphoreSet → Body
set_body None = Removed
set_body (Some set) = ASet (unawaited set)

abbrev pub body_in : plain.Kernel → Name → Body
body_in k (Proc pid) = process_body (get k.processes pid)
body_in k (Msg id) = queue_body (get k.queues id)
body_in k (Sem id) = set_body (get k.sets id)

-- of the kernel in which callers wait

abbrev pub whole_process : Option Process → Body
whole_process None = Gone
whole_process (Some (kernel.Living alive)) = Living alive.row
whole_process (Some (kernel.Ended ending)) = Ended ending
whole_process (Some kernel.Gone) = Gone

abbrev pub whole_queue : Option (Awaited Queue) → Body
whole_queue None = Removed
whole_queue (Some queue) = AQueue queue

abbrev pub whole_set : Option (Awaited SemaphoreSet) → Body
whole_set None = Removed
whole_set (Some set) = ASet set

abbrev pub whole_in : Kernel → Name → Body
whole_in k (Proc pid) = whole_process (get k.processes pid)
whole_in k (Msg id) = whole_queue (get k.queues id)
whole_in k (Sem id) = whole_set (get k.sets id)

-- A body as the kernel has it: the nodes and the tickets of those who wait are set aside. So a body is the kernel's
-- part where this is what `whole_in` says.
abbrev pub erase : Body → Body
erase (AQueue queue) = AQueue (erased queue)
erase (ASet set) = ASet (erased set)
erase body = body

-- and without those who wait, as `body_in` has it
abbrev pub bare : Body → Body
bare (AQueue queue) = AQueue (unawaited queue.state)
bare (ASet set) = ASet (unawaited set.state)
bare body = body

-- ---- the kernel that has one name alone, with a body that goes with it

-- free to act, not parked, and not struck
abbrev pub free_to_act : Row → Alive
free_to_act row = record { row = row; marks = new_marks }

abbrev pub processes_with : ℕ → Body → Numbered Process
processes_with pid (Living row) = (pid, kernel.Living (free_to_act row)) ∷ []
processes_with pid (Ended ending) = (pid, kernel.Ended ending) ∷ []
processes_with pid Gone = (pid, kernel.Gone) ∷ []
processes_with pid _ = []

abbrev pub queues_with : ℕ → Body → Numbered (Awaited Queue)
queues_with id (AQueue queue) = (id, queue) ∷ []
queues_with id _ = []

abbrev pub sets_with : ℕ → Body → Numbered (Awaited SemaphoreSet)
sets_with id (ASet set) = (id, set) ∷ []
sets_with id _ = []

abbrev pub empty_kernel : Kernel
empty_kernel =
    record {
      processes = [];
      queue_keys = [];
      set_keys = [];
      queues = [];
      sets = [];
      used_processes = [];
      used_queues = [];
      used_sets = [];
    }

abbrev pub kernel_with : Name → Body → Kernel
kernel_with (Proc pid) body = record empty_kernel { processes = processes_with pid body }
kernel_with (Msg id) body = record empty_kernel { queues = queues_with id body }
kernel_with (Sem id) body = record empty_kernel { sets = sets_with id body }

-- ---- questions about a body

abbrev pub row_of : Option Body → Option Row
row_of (Some (Living row)) = Some row
row_of _ = None

abbrev pub is_living_body : Body → Bool
is_living_body (Living row) = true
is_living_body _ = false

-- of a process that has ended
abbrev pub is_over_body : Body → Bool
is_over_body (Ended ending) = true
is_over_body Gone = true
is_over_body _ = false

-- those who wait there, in the order in which they parked
abbrev pub waiters_of : Body → List Waiting
waiters_of (AQueue queue) = queue.waiters
waiters_of (ASet set) = set.waiters
waiters_of _ = []

-- the kinds of bodies that go with a name
abbrev pub fits_name : Name → Body → Bool
fits_name (Proc pid) (Living row) = true
fits_name (Proc pid) (Ended ending) = true
fits_name (Proc pid) Gone = true
fits_name (Msg id) (AQueue queue) = true
fits_name (Msg id) Removed = true
fits_name (Sem id) (ASet set) = true
fits_name (Sem id) Removed = true
fits_name name body = false
