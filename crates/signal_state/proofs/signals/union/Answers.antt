use Rattle.std.proofs.Common.{◌∙◌}
use Rattle.signal_state.proofs.Masks.{fold-drop_more}
use Rattle.signal_state.proofs.signals.union.Goals as goal

pub loop-sig-preserved : goal.loop-sig-preserved
loop-sig-preserved c =
    rw c.with-set.ensures (rw (c.has.ensures, c.has-in-loop-sig.ensures)
    (fold-drop_more _ c.loop-sig.set c.args.sigs.now c.loop-sig.sig-index _ c.loop-sig-test.true
    ∙ c.loop-sig.invariant))
