-- Callers that wait at a queue or a set, in the order in which they parked, and whom a change of it wakes
-- (POSIX.1-2017: msgsnd, msgrcv, semop, msgctl and semctl with IPC_RMID).
use Rattle.std.specs.Prelude.{◌≡◌, ℕ, zero, suc, Bool, not, nat_eq, List, [], ◌∷◌, ◌++◌, length, map, Option, Some, None, Result, Ok, Err}
use Rattle.std.specs.List.{filter, list_any, AllByRecursion}
use Rattle.std.specs.Option.{option_map}
use Rattle.pico_base.specs.declared.call.Call.{Call}
use Rattle.pico_base.specs.declared.reply.Errno.{Errno}
use Rattle.pico_base.specs.declared.reply.Errno.TheVariants.{Eidrm}
use Rattle.pico_base.specs.declared.reply.Reply.{Reply}
use Rattle.pico_base.specs.declared.reply.Reply.TheVariants.{Num, Fail}
use Rattle.waiting_model.specs.declared.callers.Waiting.{Waiting}
use Rattle.waiting_model.specs.declared.callers.Wake.{Wake}

-- a queue or a set, with those who wait at it
pub record Awaited (T : Type 0) : Type 0 where
  pub state : T
  pub waiters : List Waiting

abbrev pub awaited : {T : Type 0} → T → List Waiting → Awaited T
awaited state waiters = record { state = state; waiters = waiters }

-- nobody waits at a new one
abbrev pub unawaited : {T : Type 0} → T → Awaited T
unawaited state = awaited state []

-- the kernel's own waiters have neither a node nor a ticket
abbrev pub waiter : ℕ → Call → Waiting
waiter pid call = record { caller = 0; ticket = 0; pid = pid; call = call }

abbrev pub wake : Waiting → Reply → Wake
wake w reply = record { caller = w.caller; ticket = w.ticket; pid = w.pid; reply = reply }

-- What a call that needn't wait comes to: the state afterwards, and the reply.
pub record Attempt (T : Type 0) : Type 0 where
  pub state : T
  pub reply : Reply

abbrev pub attempt : {T : Type 0} → T → Reply → Attempt T
attempt state reply = record { state = state; reply = reply }

abbrev pub refused : {T : Type 0} → T → Errno → Attempt T
refused state e = attempt state (Fail e)

-- a change, or its refusal
abbrev pub changed : {T : Type 0} → T → Result T Errno → Attempt T
changed state (Ok next) = attempt next (Num 0)
changed state (Err e) = refused state e

-- a look
abbrev pub looked_up : {T : Type 0} → T → Result ℕ Errno → Attempt T
looked_up state (Ok n) = attempt state (Num n)
looked_up state (Err e) = refused state e

-- To try a process's call: it comes to something, or it has to wait. A try never looks at those who wait.
abbrev pub Try : Type 0 → Type 0
Try T = T → ℕ → Call → Option (Attempt T)

-- The first waiter whose try gives a reply, what it comes to, and the others in their order.
pub record Ready (T : Type 0) : Type 0 where
  pub waiter : Waiting
  pub attempt : Attempt T
  pub others : List Waiting

abbrev pub ready_behind : {T : Type 0} → Waiting → Ready T → Ready T
ready_behind w r = record r { others = w ∷ r.others }

abbrev pub ready_or : {T : Type 0} → Waiting → List Waiting → Option (Attempt T) → Option (Ready T) → Option (Ready T)
ready_or w ws (Some a) later = Some (record { waiter = w; attempt = a; others = ws })
ready_or w ws None later = option_map (ready_behind w) later

abbrev pub first_ready : {T : Type 0} → Try T → T → List Waiting → Option (Ready T)
first_ready try state [] = None
first_ready try state (w ∷ ws) = ready_or w ws (try state w.pid w.call) (first_ready try state ws)

-- Settling: as long as some waiter's try gives a reply, the first such waiter is tried, taken out, and woken with that
-- reply. A round may make an earlier waiter ready, so the next one begins at the first again (profile: the standard
-- leaves open whom a change wakes first). Each round takes a waiter out, so there are at most as many as wait.

pub record Settled (T : Type 0) : Type 0 where
  pub object : Awaited T
  pub wakes : List Wake

abbrev pub at_rest : {T : Type 0} → Awaited T → Settled T
at_rest object = record { object = object; wakes = [] }

abbrev pub woken_first : {T : Type 0} → Wake → Settled T → Settled T
woken_first w s = record s { wakes = w ∷ s.wakes }

abbrev pub settle_on : {T : Type 0} → Awaited T → Option (Ready T) → (Awaited T → Settled T) → Settled T
settle_on object None rest = at_rest object
settle_on object (Some r) rest =
    woken_first (wake r.waiter r.attempt.reply) (rest (awaited r.attempt.state r.others))

-- at most this many rounds
abbrev pub settle_by : {T : Type 0} → ℕ → Try T → Awaited T → Settled T
settle_by zero try object = at_rest object
settle_by (suc n) try object = settle_on object (first_ready try object.state object.waiters) (settle_by n try)

abbrev pub settle : {T : Type 0} → Try T → Awaited T → Settled T
settle try object = settle_by (length object.waiters) try object

-- A call is carried out: it parks behind those who wait, or has its reply, and then whoever that lets go on is woken.
pub record Carried (T : Type 0) : Type 0 where
  pub object : Awaited T
  pub own : Option Reply
  pub wakes : List Wake

abbrev pub parked_behind : {T : Type 0} → Awaited T → Waiting → Carried T
parked_behind object who =
    record { object = record object { waiters = object.waiters ++ who ∷ [] }; own = None; wakes = [] }

abbrev pub replied : {T : Type 0} → Reply → Settled T → Carried T
replied reply s = record { object = s.object; own = Some reply; wakes = s.wakes }

abbrev pub carry_out_by : {T : Type 0} → Try T → Awaited T → Waiting → Option (Attempt T) → Carried T
carry_out_by try object who None = parked_behind object who
carry_out_by try object who (Some a) = replied a.reply (settle try (record object { state = a.state }))

abbrev pub carry_out : {T : Type 0} → Try T → Awaited T → Waiting → Carried T
carry_out try object who = carry_out_by try object who (try object.state who.pid who.call)

-- removal: EIDRM for each waiter, in order (msgctl, semctl)
abbrev pub wakes_at_removal : {T : Type 0} → Awaited T → List Wake
wakes_at_removal object = map (λ w. wake w (Fail Eidrm)) object.waiters

-- a withdrawal takes the process's waiter out, and nothing else
abbrev pub without_waiter : {T : Type 0} → ℕ → Awaited T → Awaited T
without_waiter pid object = record object { waiters = filter (λ w. not (nat_eq pid w.pid)) object.waiters }

abbrev pub waits_here : {T : Type 0} → ℕ → Awaited T → Bool
waits_here pid object = list_any (λ w. nat_eq pid w.pid) object.waiters

-- no waiter's try gives a reply
abbrev pub IsSettled : {T : Type 0} → Try T → Awaited T → Type 0
IsSettled try object = AllByRecursion (λ w. try object.state w.pid w.call ≡ None) object.waiters

-- The kernel's part of a queue or a set: the same without the nodes and tickets of those who wait. Whoever holds the
-- queue or the set has these, since it is who sends the replies.
abbrev pub erased_waiter : Waiting → Waiting
erased_waiter w = waiter w.pid w.call

abbrev pub erased_wake : Wake → Wake
erased_wake w = record { caller = 0; ticket = 0; pid = w.pid; reply = w.reply }

abbrev pub erased : {T : Type 0} → Awaited T → Awaited T
erased object = record object { waiters = map erased_waiter object.waiters }
