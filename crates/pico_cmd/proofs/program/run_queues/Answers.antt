use Rattle.pico_cmd.proofs.QueueAnswers.{queues_causes, told_queues}
use Rattle.pico_cmd.proofs.program.run_queues.Goals as goal

pub returns-clause-answer : goal.returns-clause-answer
returns-clause-answer g c =
    told_queues c.args.steps (g.S.Source.left c.args.source.now) _ _ _ _ _ c.in_ok-bytes.ensures.bytes
    c.as_slice.ensures c.in_ok-answer_to_queues.ensures.answer

pub returns-clause-causes : goal.returns-clause-causes
returns-clause-causes g c =
    queues_causes c.args.steps (g.S.Source.left c.args.source.now) _ _ _ c.in_ok-bytes.ensures.bytes c.as_slice.ensures
    c.in_ok-answer_to_queues.ensures.done c.in_ok-answer_to_queues.ensures.fault
