use Rattle.trace_text.proofs.Tallies.{tally-take}
use Rattle.trace_text.proofs.totals.Tally.add.Goals as goal

pub loop-entry-preserved : goal.loop-entry-preserved
loop-entry-preserved c =
    λ before counted. tally-take before c.args.entries.now c.loop-entry.entry-index c.entry-item.result
    c.loop-entry.self c.add_made.new.self c.loop-entry-test.true c.entry-item.is
    (c.loop-entry.invariant before counted) c.in_ok-add_made.ensures
