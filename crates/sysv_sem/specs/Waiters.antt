-- Those who wait at a set.
use Rattle.std.specs.Prelude.{◌≡◌, ◌≤◌, ℕ, pos, Bool, ◌&&◌, false, nat_eq, int_lt, List, [], ◌∷◌, ◌++◌, length, map, find, if◌then◌else◌, Option, Some, None}
use Rattle.std.specs.List.{AllByRecursion, flat_map, list_any}
use Rattle.std.specs.Option.{option_map}
use Rattle.pico_base.specs.declared.call.Call.{Call}
use Rattle.pico_base.specs.declared.call.Call.TheVariants as calls
use Rattle.kernel_model.specs.SemaphoreSet.{SemaphoreSet, max_operations}
use Rattle.index_links.specs.Nodes.{Node, node_at, without}
use Rattle.waiting_model.specs.declared.callers.Waiting.{Waiting}
use Rattle.waiting_model.specs.Waiters.{Awaited, Try, awaited, IsSettled}
use Rattle.waiting_model.specs.SemaphoreSet.{try_op, try_set, steps_of}
use Rattle.sysv_sem.specs.Limits.{IsWithinLimits}

-- so many wait at a set at most
abbrev pub max_waiters : ℕ
max_waiters = 32

-- those who wait, as they are linked
abbrev pub waiters_in : List (Node Waiting) → List Waiting
waiters_in nodes = map (λ n. n.value) nodes

-- a set, with those who wait as they are linked
abbrev pub held : SemaphoreSet → List (Node Waiting) → Awaited SemaphoreSet
held set nodes = awaited set (waiters_in nodes)

-- a waiter's try, by the operations of its call. It is try_set's of each who waits, since these are all in a semop
abbrev pub try_steps : Try SemaphoreSet
try_steps set pid call = try_op set pid (steps_of call)

-- a semop of no more operations than there may be
abbrev pub IsShortOp : Call → Type 0
IsShortOp (calls.SemOp id steps) = length steps ≤ max_operations
IsShortOp call = ⊥

-- one who may wait at a set
pub record IsSetWaiter (w : Waiting) : Type 0 where
  pub ticket : 1 ≤ w.ticket
  pub call : IsShortOp w.call

-- none of them has the process
abbrev pub LackProcess : ℕ → List Waiting → Type 0
LackProcess pid ws = AllByRecursion (λ w. nat_eq pid w.pid ≡ false) ws

-- no two are of one process
abbrev pub HaveOwnProcesses : List Waiting → Type 0
HaveOwnProcesses [] = Unit {0}
HaveOwnProcesses (w ∷ ws) = LackProcess w.pid ws × HaveOwnProcesses ws

-- those who may wait together
pub record MayWait (ws : List Waiting) : Type 0 where
  pub few : length ws ≤ max_waiters
  pub each : AllByRecursion IsSetWaiter ws
  pub apart : HaveOwnProcesses ws

-- a set between calls: within the limits, and nobody who waits there could go on
pub record IsAtRest (set : Awaited SemaphoreSet) : Type 0 where
  pub limits : IsWithinLimits set.state
  pub waiters : MayWait set.waiters
  pub settled : IsSettled try_set set

-- a semop of which an operation takes from its semaphore
abbrev pub takes_away : Call → Bool
takes_away call = list_any (λ step. int_lt step.add (pos 0)) (steps_of call)

-- the processes that wait in such a one, in order
abbrev pub taker : Waiting → List ℕ
taker w = if takes_away w.call then w.pid ∷ [] else []

abbrev pub takers : List Waiting → List ℕ
takers ws = flat_map taker ws

-- this process waits, under this ticket
abbrev pub is_asked : ℕ → ℕ → Waiting → Bool
is_asked pid ticket w = nat_eq pid w.pid && nat_eq ticket w.ticket

-- the first of a process and a ticket, as it is linked, and those who are left without it
pub record IsAskedAt (pid ticket : ℕ) (nodes : List (Node Waiting)) (slot : ℕ) : Type 0 where
  pub waiter : Waiting
  pub before : List Waiting
  pub after : List Waiting
  pub found : find (is_asked pid ticket) (waiters_in nodes) ≡ Some waiter
  pub at : option_map (λ n. n.value) (node_at slot nodes) ≡ Some waiter
  pub parts : waiters_in nodes ≡ before ++ waiter ∷ after
  pub left : waiters_in (without slot nodes) ≡ before ++ after

abbrev pub Finds : ℕ → ℕ → List (Node Waiting) → Option ℕ → Type 0
Finds pid ticket nodes None = find (is_asked pid ticket) (waiters_in nodes) ≡ None
Finds pid ticket nodes (Some slot) = IsAskedAt pid ticket nodes slot
