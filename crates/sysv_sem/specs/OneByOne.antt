-- What operations come to that are carried out one by one.
use Rattle.std.specs.Prelude.{ℕ, List, [], ◌∷◌, if◌then◌else◌, Option, Some, None, Result, Ok, Err, option_map, slice_get, slice_set}
use Rattle.pico_base.specs.declared.call.SemStep.{SemStep}
use Rattle.pico_base.specs.declared.reply.Errno.{Errno}
use Rattle.pico_base.specs.declared.reply.Errno.TheVariants.{Eagain, Erange}
use Rattle.pico_base.specs.declared.reply.Reply.{Reply}
use Rattle.pico_base.specs.declared.reply.Reply.TheVariants.{Fail}
use Rattle.kernel_model.specs.SemaphoreSet.{Semaphore, move_at}
use Rattle.kernel_model.specs.Waiting.{may_wait}
use Rattle.sysv_sem.specs.Trial.{answer_of}

-- what there is to do with a value
abbrev pub on_value : Result ℕ Errno → (ℕ → Result (List Semaphore) Errno) → Result (List Semaphore) Errno
on_value (Ok value) further = further value
on_value (Err e) further = Err e

-- the semaphores after operations by a process, each of which is carried out on what the one before it left
abbrev pub carried : ℕ → List Semaphore → List SemStep → Result (List Semaphore) Errno
carried pid set [] = Ok set
carried pid set (step ∷ steps) =
    on_value (answer_of (move_at step.add (option_map (λ s. s.value) (slice_get set step.num))))
    (λ value. carried pid (slice_set set step.num (record { value = value; last = pid })) steps)

-- the reply to a single operation that can't go on, and none where it has to wait
abbrev pub told_of : Errno → SemStep → Option Reply
told_of Erange step = Some (Fail Erange)
told_of e step = if may_wait step then None else Some (Fail Eagain)
