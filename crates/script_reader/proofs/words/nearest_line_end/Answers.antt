use Rattle.std.proofs.Common.{eqb, arith}
use Rattle.script_reader.proofs.Marked.{position_marked}
use Rattle.script_reader.proofs.words.nearest_line_end.Goals as goal

pub returns-then-at-lt-FEW-clause-value : goal.returns-then-at-lt-FEW-clause-value
returns-then-at-lt-FEW-clause-value c =
    let at = c.next_set-at in
    position_marked 32 (λ b. eqb b 10) c.args.text.now c.few_feeds_in.result at.result c.requires c.if-at-lt-FEW.true
    c.few_feeds_in.ensures at.ensures.clear (at.ensures.set (omega (arith, c.if-at-lt-FEW.true)))
