use Rattle.serve_laws.proofs.OnWhole.{no-marks}
use Rattle.serve_laws.proofs.bodies_carry_no_marks.Goals as goal

pub returns : goal.returns
returns c = no-marks
