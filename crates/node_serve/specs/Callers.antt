-- Who makes a call, as it would wait with it.
use Rattle.pico_base.specs.declared.call.Call.{Call}
use Rattle.waiting_model.specs.declared.callers.Waiting.{Waiting}
use Rattle.node_serve.specs.declared.who.Who.{Who}

abbrev pub waiting_with : Who → Call → Waiting
waiting_with who call = record { caller = who.caller; ticket = who.ticket; pid = who.pid; call = call }
