-- The trial of a semop, as the program has it.
use Rattle.std.specs.Prelude.{◌≡◌, ◌<◌, ℕ, List, length, slice_get, slice_set, Option, Some, None, Result, Ok, Err}
use Rattle.pico_base.specs.declared.call.SemStep.{SemStep}
use Rattle.pico_base.specs.declared.reply.Errno.{Errno}
use Rattle.pico_base.specs.declared.reply.Errno.TheVariants.{Eagain, Erange}
use Rattle.pico_base.specs.declared.reply.Reply.{Reply}
use Rattle.kernel_model.specs.SemaphoreSet.{SemaphoreSet, Moved, To, Waits, TooHigh, Tried, move_at}
use Rattle.kernel_model.specs.SemaphoreSet as sets
use Rattle.waiting_model.specs.Waiters.{Attempt, attempt}
use Rattle.sysv_sem.specs.declared.trial.Trial.{Trial}
use Rattle.sysv_sem.specs.declared.trial.Trial.TheVariants.{Done, StopsAt, OutOfRange}

-- the value after an operation, or why it can't go on
abbrev pub answer_of : Moved → Result ℕ Errno
answer_of (To value) = Ok value
answer_of Waits = Err Eagain
answer_of TooHigh = Err Erange

-- the values after an operation, or why it can't go on
abbrev pub values_moved : List ℕ → ℕ → Moved → Result (List ℕ) Errno
values_moved values num (To value) = Ok (slice_set values num value)
values_moved values num Waits = Err Eagain
values_moved values num TooHigh = Err Erange

abbrev pub moved : List ℕ → SemStep → Result (List ℕ) Errno
moved values step = values_moved values step.num (move_at step.add (slice_get values step.num))

-- how a trial ends, with the values where it has ended
abbrev pub tried_of : Trial → List ℕ → Tried
tried_of Done values = sets.Done values
tried_of (StopsAt place) values = sets.StopsAt place
tried_of OutOfRange values = sets.OutOfRange

-- a try came to this reply, or to none, where all stays
abbrev pub TriesTo : {T : Type 0} → Option (Attempt T) → T → T → Option Reply → Type 0
TriesTo o old new None = (o ≡ None) × (new ≡ old)
TriesTo o old new (Some reply) = o ≡ Some (attempt new reply)

-- how a trial ends at an operation that can't go on
abbrev pub stopped_by : Errno → ℕ → Trial
stopped_by Erange place = OutOfRange
stopped_by e place = StopsAt place

-- the place at which a trial stops is that of an operation
abbrev pub IsInside : Trial → List SemStep → Type 0
IsInside Done steps = Unit {0}
IsInside (StopsAt place) steps = place < length steps
IsInside OutOfRange steps = Unit {0}
