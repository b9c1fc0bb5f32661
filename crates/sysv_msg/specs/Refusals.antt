-- What a refused send and a refused receive say.
use Rattle.std.specs.Prelude.{◌≡◌, ℕ, List, Result, Err, IsOk}
use Rattle.pico_base.specs.declared.reply.Errno.{Errno}
use Rattle.kernel_model.specs.Queue.{Queue, Received}
use Rattle.sysv_msg.specs.declared.fault.ReceiveFault.{ReceiveFault}
use Rattle.sysv_msg.specs.declared.fault.ReceiveFault.TheVariants as faults
use Rattle.sysv_msg.specs.declared.fault.SendFault.{SendFault}
use Rattle.sysv_msg.specs.declared.fault.SendFault.TheVariants.{Memory, No}

-- The error is the definition's. Where an allocation was refused the message was one to send, and its text is back.
abbrev pub RefusesSend : List ℕ → Result Queue Errno → SendFault → Type 0
RefusesSend text sent (Memory back) = (back ≡ text) × IsOk sent
RefusesSend text sent (No e) = sent ≡ Err e

-- The error is the definition's. Where an allocation was refused nothing is said.
abbrev pub RefusesReceive : Result Received Errno → ReceiveFault → Type 0
RefusesReceive received faults.Memory = Unit {0}
RefusesReceive received (faults.No e) = received ≡ Err e
