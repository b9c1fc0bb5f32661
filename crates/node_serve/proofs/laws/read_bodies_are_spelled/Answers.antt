use Rattle.node_serve.proofs.ReadTaken.{read-spelled}
use Rattle.node_serve.proofs.laws.read_bodies_are_spelled.Goals as goal

pub returns : goal.returns
returns c = read-spelled
