use Rattle.waiting_laws.proofs.Carrying.{looks-wake-nobody}
use Rattle.waiting_laws.proofs.looks_wake_nobody.Goals as goal

pub returns : goal.returns
returns c = looks-wake-nobody
