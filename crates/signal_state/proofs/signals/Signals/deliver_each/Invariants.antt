use Rattle.std.proofs.Common.{◌≡◌, drop, fold}
use Rattle.kernel_model.specs.Signals.{deliver}
use Rattle.signal_state.proofs.signals.Signals.deliver_each.Given as goal

abbrev pub invariant-loop-sig : goal.invariant-loop-sig
invariant-loop-sig l = fold deliver l.self (drop l.sig-index l.sigs) ≡ fold deliver l.fn.self l.sigs
