-- The signal that a call sends.
use Rattle.std.specs.Prelude.{Option, Some, None}
use Rattle.pico_base.specs.declared.call.Call.{Call}
use Rattle.pico_base.specs.declared.call.Call.TheVariants as calls
use Rattle.pico_base.specs.declared.signal.Sig.{Sig}
use Rattle.pico_base.specs.declared.signal.SigArg.TheVariants.{Is}

abbrev pub sent_by : Call → Option Sig
sent_by (calls.Kill target (Is g)) = Some g
sent_by call = None
