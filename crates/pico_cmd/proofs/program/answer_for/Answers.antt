use Rattle.pico_cmd.proofs.Promises.{read_told, untouched_left}
use Rattle.pico_cmd.proofs.program.answer_for.Goals as goal

pub returns-in-Simulate-clause-read : goal.returns-in-Simulate-clause-read
returns-in-Simulate-clause-read g c = rw c.in-Simulate.is (read_told c.simulate.result)

pub returns-in-Run-clause-read : goal.returns-in-Run-clause-read
returns-in-Run-clause-read g c = rw c.in-Run.is (read_told c.run_with_threads.result)

pub returns-in-Check-clause-read : goal.returns-in-Check-clause-read
returns-in-Check-clause-read g c = rw c.in-Check.is (read_told c.check.result)

pub returns-in-Simulate-clause-untouched : goal.returns-in-Simulate-clause-untouched
returns-in-Simulate-clause-untouched g c unread = absurd (unread (rw c.in-Simulate.is tt))

pub returns-in-Run-clause-untouched : goal.returns-in-Run-clause-untouched
returns-in-Run-clause-untouched g c unread = absurd (unread (rw c.in-Run.is tt))

pub returns-in-Boxes-clause-read : goal.returns-in-Boxes-clause-read
returns-in-Boxes-clause-read g c = rw c.in-Boxes.is (read_told c.run_sandboxes.result)

pub returns-in-Boxes-clause-untouched : goal.returns-in-Boxes-clause-untouched
returns-in-Boxes-clause-untouched g c unread = absurd (unread (rw c.in-Boxes.is tt))

pub returns-in-Check-clause-untouched : goal.returns-in-Check-clause-untouched
returns-in-Check-clause-untouched g c unread = absurd (unread (rw c.in-Check.is tt))

pub returns-in_ok-totals-in-Generate-clause-rest : goal.returns-in_ok-totals-in-Generate-clause-rest
returns-in_ok-totals-in-Generate-clause-rest g c =
    rw c.in-Generate.is (untouched_left (g.S.Source.left c.args.source.now))

pub returns-in_ok-totals-in-Generate-clause-causes : goal.returns-in_ok-totals-in-Generate-clause-causes
returns-in_ok-totals-in-Generate-clause-causes g c =
    rw c.in-Generate.is
    (c.in_ok-totals-in-Generate.ensures.causes (g.S.Source.left c.args.source.now))

pub returns-in-Freeze-clause-read : goal.returns-in-Freeze-clause-read
returns-in-Freeze-clause-read g c = rw c.in-Freeze.is (read_told c.freeze_script.result)

pub returns-in-Freeze-clause-untouched : goal.returns-in-Freeze-clause-untouched
returns-in-Freeze-clause-untouched g c unread = absurd (unread (rw c.in-Freeze.is tt))

pub returns-in-Thaw-clause-read : goal.returns-in-Thaw-clause-read
returns-in-Thaw-clause-read g c = rw c.in-Thaw.is (read_told c.thaw_image.result)

pub returns-in-Thaw-clause-untouched : goal.returns-in-Thaw-clause-untouched
returns-in-Thaw-clause-untouched g c unread = absurd (unread (rw c.in-Thaw.is tt))

pub returns-in-Queues-clause-read : goal.returns-in-Queues-clause-read
returns-in-Queues-clause-read g c = rw c.in-Queues.is (read_told c.run_queues.result)

pub returns-in-Queues-clause-untouched : goal.returns-in-Queues-clause-untouched
returns-in-Queues-clause-untouched g c unread = absurd (unread (rw c.in-Queues.is tt))
