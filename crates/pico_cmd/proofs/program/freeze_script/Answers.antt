use Rattle.pico_cmd.proofs.Freezes.{told_freeze, freeze_causes}
use Rattle.pico_cmd.proofs.program.freeze_script.Goals as goal

pub returns-clause-answer : goal.returns-clause-answer
returns-clause-answer g c =
    told_freeze c.args.count (g.S.Source.left c.args.source.now) _ _ _ _ _ c.in_ok-bytes.ensures.bytes
    c.as_slice.ensures c.in_ok-answer_to_freeze.ensures.answer c.in_ok-answer_to_freeze.ensures.alone

pub returns-clause-causes : goal.returns-clause-causes
returns-clause-causes g c =
    freeze_causes c.args.count (g.S.Source.left c.args.source.now) _ _ _ c.in_ok-bytes.ensures.bytes c.as_slice.ensures
    c.in_ok-answer_to_freeze.ensures.done c.in_ok-answer_to_freeze.ensures.fault
