use Rattle.std.proofs.Common.{◌∙◌, ap}
use Rattle.number_maps.specs.Maps.{Numbered}
use Rattle.index_links.specs.declared.places.Link.{Link}
use Rattle.index_links.specs.Chains.{row_at}
use Rattle.index_links.proofs.Linked.{row_emptied, row_taken, row_written}
use Rattle.index_links.proofs.kept.write_row.Goals as goal

pub returns-then-row-ne-NOWHERE-clause-rows : goal.returns-then-row-ne-NOWHERE-clause-rows
returns-then-row-ne-NOWHERE-clause-rows c q =
    row_written c.args.rows.now.entries c.args.key q c.args.row c.if-row-ne-NOWHERE.true

pub returns-then-saturating_sub-len-clause-rows : goal.returns-then-saturating_sub-len-clause-rows
returns-then-saturating_sub-len-clause-rows c q =
    ap (λ (m : Numbered Link). row_at m q) c.take.ensures.entries
    ∙ row_taken c.args.rows.now.entries c.args.key q c.args.row c.if-row-ne-NOWHERE.false

pub returns-else-saturating_sub-len-clause-rows : goal.returns-else-saturating_sub-len-clause-rows
returns-else-saturating_sub-len-clause-rows c q =
    row_emptied c.args.rows.now.entries c.args.key q c.args.row c.if-row-ne-NOWHERE.false
