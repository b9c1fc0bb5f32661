use Rattle.pico_cmd.proofs.Sandboxes.{is_done, runs_boxes}
use Rattle.pico_cmd.proofs.boxed.answer_to_boxes.Goals as goal

pub returns-in-Ok-clause-answer : goal.returns-in-Ok-clause-answer
returns-in-Ok-clause-answer g c = runs_boxes _ _ c.run_boxes.result c.in-Ok.ensures.ok c.run_boxes.ensures

pub returns-in-Ok-clause-done : goal.returns-in-Ok-clause-done
returns-in-Ok-clause-done g c boxes is = is_done _ c.run_boxes.result c.run_boxes.ensures
