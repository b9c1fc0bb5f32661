use Rattle.node_serve.proofs.ReadTaken.{spelled-read}
use Rattle.node_serve.proofs.laws.spelled_bodies_are_read.Goals as goal

pub returns : goal.returns
returns c = spelled-read
