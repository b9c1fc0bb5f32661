use Rattle.std.proofs.Common.{◌∙◌}
use Rattle.mq_model.specs.Lines.{script_given}
use Rattle.posix_mq.specs.Told.{counted}
use Rattle.posix_mq.proofs.Telling.{traced}
use Rattle.posix_mq.proofs.text.mq_trace.Goals as goal

pub returns : goal.returns
returns c =
    c.from_vec.ensures
    ∙ traced c.args.script.now.script c.in_ok-given.given
    (script_given c.args.script.now.script c.args.script.now.lines) c.args.journal.now c.new-out.result.items
    c.push_lines.new.out.items c.push_tally.new.out.items c.in_ok-given.ensures c.new-out.ensures.items
    c.in_ok-tally.ensures.text
    (c.in_ok-push_tally.ensures (counted c.in_ok-given.given c.args.journal.now) c.in_ok-tally.ensures.tally)
