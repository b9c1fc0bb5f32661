use Rattle.std.proofs.Common.{rules}
use Rattle.stamp_merge.proofs.Merges.{merge-from-sort}
use Rattle.stamp_merge.proofs.merge.Goals as goal

pub returns : goal.returns
returns g c = merge-from-sort c.args.logs _ c.requires.rise c.requires.own_nodes (search rules)
