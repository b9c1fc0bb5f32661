use Rattle.std.proofs.Common.{◌∙◌, ap}
use Rattle.std.proofs.lemmas.Result.{on_ok_weaker}
use Rattle.node_model.specs.Bodies.{Deeds}
use Rattle.node_serve.specs.Bodies.{bodies_of}
use Rattle.node_serve.proofs.KernelLemmas.{bodies-put}
use Rattle.node_state.specs.State.{node_of}
use Rattle.node_state.proofs.state.State.create.Goals as goal

pub returns : goal.returns
returns c =
    on_ok_weaker c.create.result
    (λ is. ap (λ (deeds : Deeds). record (node_of c.args.self.now) { deeds = deeds })
    (ap bodies_of is ∙ bodies-put c.args.self.now.deeds.bodies c.args.name c.args.body))
    c.create.ensures
