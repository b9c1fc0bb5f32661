use Rattle.std.proofs.Common.{rules, ◌≡◌, []}
use Rattle.pico_run.proofs.Settles.{last-row, row-is-settled, row-is-smaller, settling-all-end, twins-at-ends}
use Rattle.pico_run.proofs.settling.settle_all.Goals as goal

pub settle_row-requires : goal.settle_row-requires
settle_row-requires g c =
    twins-at-ends _ _ _ _ (last-row _ _ _ _ _ c.loop-row.invariant c.in-Some.ensures.items)

pub loop-row-smaller : goal.loop-row-smaller
loop-row-smaller g c =
    row-is-smaller _ _ _ _ _ _ c.loop-row.invariant c.in-Some.ensures.items c.in_ok-rows.ensures

pub loop-row-preserved : goal.loop-row-preserved
loop-row-preserved g c =
    row-is-settled _ _ _ _ _ (last-row _ _ _ _ _ c.loop-row.invariant c.in-Some.ensures.items) c.in_ok-rows.ensures

pub returns : goal.returns
returns g c =
    let none : c.loop-row.rows.items ≡ [] = search rules
    in settling-all-end _ _ _ c.loop-row.invariant none
