use Rattle.waiting_laws.proofs.Entries.{reachable-marks}
use Rattle.waiting_laws.proofs.reachable_marks_are_waits.Goals as goal

pub returns : goal.returns
returns c = reachable-marks
