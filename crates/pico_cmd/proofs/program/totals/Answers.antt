use Rattle.pico_cmd.proofs.Promises.{told_totals, gen_causes}
use Rattle.pico_cmd.proofs.program.totals.Goals as goal

pub returns-clause-answer : goal.returns-clause-answer
returns-clause-answer g c left =
    told_totals c.args.options left _ _ _ c.in_ok-answer.ensures.text c.in_ok-answer.ensures.left
    c.in_ok-answer.ensures.status

pub returns-clause-causes : goal.returns-clause-causes
returns-clause-causes g c left = gen_causes c.args.options left _ c.in_ok-answer.ensures.status
