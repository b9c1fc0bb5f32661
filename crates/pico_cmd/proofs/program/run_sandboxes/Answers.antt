use Rattle.pico_cmd.proofs.Sandboxes.{told_boxes, boxes_causes}
use Rattle.pico_cmd.proofs.program.run_sandboxes.Goals as goal

pub returns-clause-answer : goal.returns-clause-answer
returns-clause-answer g c =
    told_boxes (g.S.Source.left c.args.source.now) _ _ _ _ _ c.in_ok-bytes.ensures.bytes c.as_slice.ensures
    c.in_ok-answer_to_boxes.ensures.answer

pub returns-clause-causes : goal.returns-clause-causes
returns-clause-causes g c =
    boxes_causes (g.S.Source.left c.args.source.now) _ _ _ c.in_ok-bytes.ensures.bytes c.as_slice.ensures
    c.in_ok-answer_to_boxes.ensures.done c.in_ok-answer_to_boxes.ensures.fault
