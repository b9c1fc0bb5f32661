use Rattle.pico_cmd.proofs.QueueAnswers.{queues_end, runs_queues}
use Rattle.pico_cmd.proofs.queues.answer_to_queues.Goals as goal

pub returns-in-Ok-clause-answer : goal.returns-in-Ok-clause-answer
returns-in-Ok-clause-answer g c =
    runs_queues c.args.steps _ _ c.run_given.result c.in-Ok.ensures.ok c.run_given.ensures

pub returns-in-Ok-clause-done : goal.returns-in-Ok-clause-done
returns-in-Ok-clause-done g c given is = queues_end c.args.steps _ c.run_given.result c.run_given.ensures
