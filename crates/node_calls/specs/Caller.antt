-- A process as a caller: its block of the script, where it is in the block, and its call under way.
use Rattle.std.specs.Prelude.{ℕ, ◌<◌, Bool, true, false, ◌&&◌, [], ◌∷◌, length, Option, Some, nat_lt}
use Rattle.pico_base.specs.declared.call.Call.{Call}
use Rattle.pico_base.specs.declared.script.Script.{Script}
use Rattle.pico_base.specs.declared.reply.Reply.{Reply}
use Rattle.pico_base.specs.declared.signal.Sig.{Sig}
use Rattle.kernel_model.specs.Script.{Vars}
use Rattle.kernel_model.specs.Signals.{count_up}
use Rattle.kernel_model.specs.Fitting.{Place}
use Rattle.node_model.specs.Caller as model
use Rattle.node_model.specs.Caller.{Caller, lines_of, caller_place, due_call}

-- a caller, and its block
pub record BlockCaller : Type 0 where
  pub block : ℕ
  pub caller : Caller

-- the variables rise, behind this one
abbrev pub rise_from : ℕ → Vars → Bool
rise_from last [] = true
rise_from last (v ∷ vars) = nat_lt last v.0 && rise_from v.0 vars

-- each variable is there once, by rising variable
abbrev pub are_rising : Vars → Bool
are_rising [] = true
are_rising (v ∷ vars) = rise_from v.0 vars

-- the script has its block, and the line that it has reached stands in it, an implied exit counted
abbrev pub HasLine : Script → BlockCaller → Type 0
HasLine script c = c.caller.line < length (lines_of script c.block)

-- the place of the process, as a history that fits the script has it
abbrev pub place_of : Script → BlockCaller → Place
place_of script c = caller_place script c.block c.caller

-- the call due: its end by the signal that dooms it, or that of its place
abbrev pub call_due : Script → BlockCaller → Option Sig → Option Call
call_due script c doom = due_call script c.block c.caller doom

-- at the first line of the block, with these variables
abbrev pub beginning : ℕ → Vars → BlockCaller
beginning block vars = record { block = block; caller = model.new_caller vars }

-- A call is started. The count of calls stays at its greatest value.
abbrev pub started : BlockCaller → Call → BlockCaller
started c call =
    record c { caller = record c.caller { ticket = count_up c.caller.ticket; under_way = Some call; noted = false } }

-- the call under way has this reply
abbrev pub answered : Script → BlockCaller → Call → Reply → BlockCaller
answered script c call reply = record c { caller = model.answer_call script c.block c.caller call reply }
