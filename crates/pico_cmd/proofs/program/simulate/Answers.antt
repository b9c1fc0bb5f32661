use Rattle.pico_cmd.proofs.Promises.{told_answer, sim_causes}
use Rattle.pico_cmd.proofs.program.simulate.Goals as goal

pub returns-clause-answer : goal.returns-clause-answer
returns-clause-answer g c =
    told_answer _ (g.S.Source.left c.args.source.now) _ _ _ _ c.in_ok-bytes.ensures.bytes
    c.in_ok-answer_to.ensures.answer c.in_ok-answer_to.ensures.alone

pub returns-clause-causes : goal.returns-clause-causes
returns-clause-causes g c =
    sim_causes c.args.options (g.S.Source.left c.args.source.now) _ _ c.in_ok-bytes.ensures.bytes
    c.in_ok-answer_to.ensures.done c.in_ok-answer_to.ensures.fault
