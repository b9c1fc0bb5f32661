use Rattle.std.proofs.Common.{refl, sym}
use Rattle.std.proofs.lemmas.Result.{IfOk-weaker}
use Rattle.node_serve.specs.Bodies.{row_of}
use Rattle.node_state.specs.State.{node_of}
use Rattle.number_rules.proofs.Children.{forked-here}
use Rattle.number_rules.proofs.forking.fork_here.Goals as goal

pub returns-in-Some : goal.returns-in-Some
returns-in-Some c =
    IfOk-weaker c.fork_body.result _ _
    (λ made h. forked-here (node_of c.args.node.now) c.args.node.now.deeds.bodies c.in-Some.body.now
    c.fork_body.new.body c.args.child (row_of made) refl (sym c.in-Some.ensures.value) h)
    c.fork_body.ensures
