use Rattle.pico_cmd.proofs.Promises.{told_verdict, check_causes}
use Rattle.pico_cmd.proofs.program.check.Goals as goal

pub returns-clause-answer : goal.returns-clause-answer
returns-clause-answer g c =
    told_verdict (g.S.Source.left c.args.source.now) _ _ _ _ _ c.in_ok-bytes.ensures.bytes c.in_ok-bytes.ensures.few
    c.as_slice.ensures c.in_ok-answer_to_check.ensures.answer c.in_ok-answer_to_check.ensures.alone

pub returns-clause-causes : goal.returns-clause-causes
returns-clause-causes g c =
    check_causes (g.S.Source.left c.args.source.now) _ _ _ c.in_ok-bytes.ensures.bytes c.as_slice.ensures
    c.in_ok-answer_to_check.ensures.causes
