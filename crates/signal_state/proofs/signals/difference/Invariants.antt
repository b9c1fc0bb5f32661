use Rattle.std.proofs.Common.{◌≡◌, not, ◌&&◌, drop, fold}
use Rattle.pico_base.specs.Signal.{at, put_at}
use Rattle.signal_state.proofs.signals.difference.Given as goal

abbrev pub invariant-loop-sig : goal.invariant-loop-sig
invariant-loop-sig l =
    fold (λ s g. put_at s g (at l.a g && not (at l.b g))) l.set (drop l.sig-index l.sigs)
    ≡ fold (λ s g. put_at s g (at l.a g && not (at l.b g))) l.a l.sigs
