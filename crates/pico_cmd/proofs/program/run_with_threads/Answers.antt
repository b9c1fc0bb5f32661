use Rattle.pico_cmd.proofs.Promises.{told_run, run_causes}
use Rattle.pico_cmd.proofs.program.run_with_threads.Goals as goal

pub returns-clause-answer : goal.returns-clause-answer
returns-clause-answer g c =
    told_run _ (g.S.Source.left c.args.source.now) _ _ _ _ c.in_ok-bytes.ensures.bytes
    c.in_ok-answer_to_run.ensures.answer

pub returns-clause-causes : goal.returns-clause-causes
returns-clause-causes g c =
    run_causes c.args.steps (g.S.Source.left c.args.source.now) _ _ c.in_ok-bytes.ensures.bytes
    c.in_ok-answer_to_run.ensures.done c.in_ok-answer_to_run.ensures.fault
