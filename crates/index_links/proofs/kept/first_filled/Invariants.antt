use Rattle.std.proofs.Common.{◌≡◌, drop}
use Rattle.index_links.specs.Chains.{first_filled}
use Rattle.index_links.proofs.kept.first_filled.Given as goal

-- none of those so far leads somewhere
abbrev pub invariant-loop-row : goal.invariant-loop-row
invariant-loop-row l = first_filled (drop l.row-index l.rows) ≡ first_filled l.rows
