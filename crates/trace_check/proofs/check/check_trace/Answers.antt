use Rattle.trace_check.proofs.Completes.{gives-only}
use Rattle.trace_check.proofs.Follows.{gives-legal}
use Rattle.trace_check.proofs.check.check_trace.Goals as goal

pub returns-clause-legal : goal.returns-clause-legal
returns-clause-legal c =
    gives-legal c.args.script.now c.requires.sound c.args.bytes.now c.args.first_line c.judge.result c.judge.ensures

pub returns-clause-only : goal.returns-clause-only
returns-clause-only c history is =
    gives-only (record { move = c.entries_move_marks.ensures; wake = c.entries_wake_rightly.ensures })
    c.args.script.now c.requires.sound history c.args.bytes.now c.args.first_line c.judge.result
    c.judge.ensures is
