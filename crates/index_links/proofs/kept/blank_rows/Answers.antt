use Rattle.index_links.proofs.Linked.{blank_more}
use Rattle.index_links.proofs.kept.blank_rows.Goals as goal

pub loop-row-preserved : goal.loop-row-preserved
loop-row-preserved c q =
    blank_more c.loop-row.fresh.entries _ _ c.in_ok-insert.ensures.ok c.loop-row.invariant q
