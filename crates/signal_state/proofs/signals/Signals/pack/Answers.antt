use Rattle.std.proofs.Common.{◌^◌, arith}
use Rattle.signal_state.proofs.Bodies.{at-small}
use Rattle.signal_state.proofs.signals.Signals.pack.Goals as goal

pub returns-clause-state : goal.returns-clause-state
returns-clause-state c =
    let h = c.counts-counts.type_inv in
    record {
      held = rw (← c.self.view_is) c.self.invariant;
      counts = rw (← c.counts-counts.ensures)
          (at-small c.counts-counts.result (2 ^ 32) (omega (arith, h)) (omega (arith, h)) (omega (arith, h))
          (omega (arith, h)) (omega (arith, h)) (omega (arith, h)) (omega (arith, h)) (omega (arith, h))
          (omega (arith, h)) (omega (arith, h)));
    }
