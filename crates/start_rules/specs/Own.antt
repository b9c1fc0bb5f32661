-- A process's call on itself that is carried out at once.
use Rattle.std.specs.Prelude.{◌≡◌, Bool, true, false, Option, Some, None}
use Rattle.std.specs.Option.{option_and_then}
use Rattle.pico_base.specs.declared.call.Call.{Call}
use Rattle.pico_base.specs.declared.call.Call.TheVariants as calls
use Rattle.pico_base.specs.declared.script.Script.{Script}
use Rattle.pico_base.specs.declared.signal.Sig.{Sig}
use Rattle.kernel_model.specs.Row.{Row}
use Rattle.node_calls.specs.Caller.{HasLine, call_due}
use Rattle.node_model.specs.Caller.{due_call}
use Rattle.world_model.specs.Node.{Node}
use Rattle.world_model.specs.Starting.{start}
use Rattle.world_model.specs.Step.{Step}
use Rattle.node_state.specs.declared.state.State.{State}

-- it is on the process itself whoever makes it, takes no number, and doesn't wait
abbrev pub is_act : Call → Bool
is_act calls.GetPid = true
is_act (calls.SigAction sig act) = true
is_act (calls.SigProcMask how set) = true
is_act calls.SigPending = true
is_act (calls.Handled sig) = true
is_act (calls.WaitPid child nohang) = nohang
is_act _ = false

-- such a call is due, where no signal dooms the process
pub record IsOwnCall (script : Script) (state : State) (call : Call) : Type 0 where
  pub line : HasLine script state.caller
  pub due : call_due script state.caller None ≡ Some call
  pub act : is_act call ≡ true

-- the call due is started, where the process is doomed by this signal, or by none
abbrev pub start_doomed : Script → Node → Row → Option Sig → Option Step
start_doomed script n row doom = option_and_then (start script n row) (due_call script n.number n.caller doom)
