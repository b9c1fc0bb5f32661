use Rattle.std.proofs.Common.{sym, ◌∙◌}
use Rattle.trace_text.proofs.ReadLaws.{no-totals}
use Rattle.trace_check.proofs.judge.Judge.is_totals.Goals as goal

pub returns-then-not-begins_like_totals : goal.returns-then-not-begins_like_totals
returns-then-not-begins_like_totals c done is =
    sym (no-totals done c.args.line.now
    (sym c.begins_like_totals.ensures ∙ c.if-not-begins_like_totals.true))
