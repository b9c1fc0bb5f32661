use Rattle.std.proofs.Common.{◌∙◌, ap, None}
use Rattle.node_model.specs.Directory.{Directory, arrive}
use Rattle.node_state.proofs.Places.{recalled-arrives, recalled-comes}
use Rattle.node_state.proofs.leader.Leader.move_to.Goals as goal

pub arrive-requires : goal.arrive-requires
arrive-requires c = rw c.recall.ensures (recalled-comes c.args.self.now.directory c.args.name None)

pub returns : goal.returns
returns c =
    ap (λ (d : Directory). record c.args.self.now { directory = d })
    (c.arrive.ensures ∙ ap (λ (d : Directory). arrive d c.args.name c.args.node) c.recall.ensures
    ∙ recalled-arrives c.args.self.now.directory c.args.name None c.args.node)
