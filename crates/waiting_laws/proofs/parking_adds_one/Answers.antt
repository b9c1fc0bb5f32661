use Rattle.waiting_laws.proofs.Carrying.{parking-adds-one}
use Rattle.waiting_laws.proofs.parking_adds_one.Goals as goal

pub returns : goal.returns
returns c = parking-adds-one
