use Rattle.std.proofs.Common.{eqb, arith}
use Rattle.script_reader.proofs.Marked.{position_marked, none_marked}
use Rattle.script_reader.proofs.words.near_line_end.Goals as goal

pub returns-then-at-lt-LANES-clause-value : goal.returns-then-at-lt-LANES-clause-value
returns-then-at-lt-LANES-clause-value c =
    let at = c.next_set-at in
    position_marked 64 (λ b. eqb b 10) c.args.text.now c.feeds_in.result at.result c.requires c.if-at-lt-LANES.true
    c.feeds_in.ensures at.ensures.clear (at.ensures.set c.if-at-lt-LANES.true)

pub returns-else-at-lt-LANES-clause-far : goal.returns-else-at-lt-LANES-clause-far
returns-else-at-lt-LANES-clause-far c none =
    none_marked 64 (λ b. eqb b 10) c.args.text.now c.feeds_in.result c.next_set-at.result c.requires
    (omega (arith, c.if-at-lt-LANES.false)) c.feeds_in.ensures c.next_set-at.ensures.clear
