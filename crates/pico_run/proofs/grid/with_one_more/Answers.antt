use Rattle.std.proofs.Common.{◌+◌, ◌∙◌, ap}
use Rattle.pico_run.proofs.Growing.{growing-more}
use Rattle.pico_run.proofs.grid.with_one_more.Goals as goal

pub loop-row-preserved : goal.loop-row-preserved
loop-row-preserved c = record {
  can_next = tt;
  is_finite = tt;
  growing =
      growing-more c.args.rows.items _ _ _ _ _ _ c.in-Some.row _ c.in_ok-mine.mine c.in_ok-mine.theirs
      c.loop-row.invariant.growing c.in-Some.ensures.steps.0
      (record {
        to_them = c.in_ok-mine.ensures.nodes.0 ∙ c.node_at-other.ensures
            ∙ ap (λ n. n + 1) (c.len-in-loop-row.ensures ∙ c.loop-row.grown.ok.0);
        to_me = c.in_ok-mine.ensures.nodes.1 ∙ c.node_at-number.ensures ∙ ap (λ n. n + 1) (c.len.ensures
            ∙ c.args.rows.ok.0);
        twins = c.in_ok-mine.ensures.twins;
        new_mine = c.in_ok-mine.ensures.new.0;
        new_theirs = c.in_ok-mine.ensures.new.1;
      })
      c.in_ok-push.ensures.ok c.in_ok-push-2.ensures.ok c.in_ok-push-3.ensures.items;
}
