use Rattle.std.proofs.Common.{length}
use Rattle.pico_run.proofs.Settles.{AreSettling}
use Rattle.pico_run.proofs.settling.settle_all.Given as goal

-- some rows are left
abbrev pub invariant-loop-row : goal.invariant-loop-row
invariant-loop-row g l = AreSettling (length l.fn.rows.items) l.fn.rows.items l.rows.items

-- how many
abbrev pub decreases-loop-row : goal.decreases-loop-row
decreases-loop-row g l = length l.rows.items
