use Rattle.pico_cmd.proofs.Thaws.{told_thaw, thaw_causes}
use Rattle.pico_cmd.proofs.program.thaw_image.Goals as goal

pub returns-clause-answer : goal.returns-clause-answer
returns-clause-answer g c =
    told_thaw (g.S.Source.left c.args.source.now) _ _ _ _ _ c.in_ok-bytes.ensures.bytes c.as_slice.ensures
    c.in_ok-answer_to_thaw.ensures.answer c.in_ok-answer_to_thaw.ensures.alone

pub returns-clause-causes : goal.returns-clause-causes
returns-clause-causes g c =
    thaw_causes (g.S.Source.left c.args.source.now) _ _ _ c.in_ok-bytes.ensures.bytes c.as_slice.ensures
    c.in_ok-answer_to_thaw.ensures.done c.in_ok-answer_to_thaw.ensures.fault
    c.in_ok-answer_to_thaw.ensures.image_fault
