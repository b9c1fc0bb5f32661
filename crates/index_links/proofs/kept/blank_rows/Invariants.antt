use Rattle.std.proofs.Common.{◌≡◌, ℕ}
use Rattle.index_links.specs.Chains.{blank, row_at}
use Rattle.index_links.proofs.kept.blank_rows.Given as goal

-- each row leads nowhere
abbrev pub invariant-loop-row : goal.invariant-loop-row
invariant-loop-row l = (q : ℕ) → row_at l.fresh.entries q ≡ blank
