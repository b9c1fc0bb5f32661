use Rattle.pico_run.proofs.LastStamps.{last-above, last-least}
use Rattle.pico_run.proofs.resting.last_stamp.Goals as goal

pub returns-in-Some-clause-above : goal.returns-in-Some-clause-above
returns-in-Some-clause-above c =
    last-above c.args.events.now c.in-Some.event.now c.in-Some.ensures.value c.requires

pub returns-in-Some-clause-least : goal.returns-in-Some-clause-least
returns-in-Some-clause-least c = λ bound all.
    last-least c.args.events.now c.in-Some.event.now bound c.in-Some.ensures.value all
