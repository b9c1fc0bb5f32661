use Rattle.waiting_laws.proofs.Places.{places-are-marks}
use Rattle.waiting_laws.proofs.places_are_marks.Goals as goal

pub returns : goal.returns
returns c = places-are-marks
