use Rattle.std.proofs.Common.{◌≡◌, drop, false}
use Rattle.pico_base.specs.Signal.{everywhere}
use Rattle.signal_state.specs.Reading.{set_from}
use Rattle.signal_state.proofs.reading.set_of.Given as goal

abbrev pub invariant-loop-sig : goal.invariant-loop-sig
invariant-loop-sig l = set_from l.rest (drop l.sig-index l.sigs) l.set ≡ set_from l.number l.sigs (everywhere false)
