-- A message queue at which callers wait (POSIX.1-2017: msgsnd, msgrcv, msgctl).
use Rattle.std.specs.Prelude.{ℕ, Bool, if◌then◌else◌, Option, Some, None, Result, Ok, Err}
use Rattle.pico_base.specs.declared.call.Call.{Call}
use Rattle.pico_base.specs.declared.call.Call.TheVariants as calls
use Rattle.pico_base.specs.declared.reply.Errno.{Errno}
use Rattle.pico_base.specs.declared.reply.Errno.TheVariants.{Einval, Eagain, Enomsg}
use Rattle.pico_base.specs.declared.reply.Reply.TheVariants.{Num, Message}
use Rattle.kernel_model.specs.Queue.{Queue, Received, send, receive, stat, set_qbytes}
use Rattle.waiting_model.specs.declared.callers.Waiting.{Waiting}
use Rattle.waiting_model.specs.Waiters.{Attempt, Awaited, Carried, attempt, refused, changed, carry_out}

-- the call stops here: with IPC_NOWAIT it is refused, and else it has to wait
abbrev pub stopped : {T : Type 0} → T → Bool → Errno → Option (Attempt T)
stopped state nowait e = if nowait then Some (refused state e) else None

-- msgsnd: where there is no room the call stops
abbrev pub try_send : Queue → Bool → Result Queue Errno → Option (Attempt Queue)
try_send q nowait (Ok next) = Some (attempt next (Num 0))
try_send q nowait (Err Eagain) = stopped q nowait Eagain
try_send q nowait (Err e) = Some (refused q e)

-- msgrcv: where no message fits the call stops
abbrev pub try_receive : Queue → Bool → Result Received Errno → Option (Attempt Queue)
try_receive q nowait (Ok r) = Some (attempt r.queue (Message r.message.class r.message.text))
try_receive q nowait (Err Enomsg) = stopped q nowait Enomsg
try_receive q nowait (Err e) = Some (refused q e)

-- a call on a queue that is there; no other call comes here
abbrev pub try_queue : Queue → ℕ → Call → Option (Attempt Queue)
try_queue q pid (calls.MsgSnd id class text nowait) = try_send q nowait (send q pid class text)
try_queue q pid (calls.MsgRcv id class size noerror nowait) = try_receive q nowait (receive q pid class size noerror)
try_queue q pid (calls.MsgStat id) = Some (attempt q (stat q))
try_queue q pid (calls.MsgSet id qbytes) = Some (changed q (set_qbytes q qbytes))
try_queue q pid call = Some (refused q Einval)

abbrev pub carry_out_on_queue : Awaited Queue → Waiting → Carried Queue
carry_out_on_queue q who = carry_out try_queue q who
