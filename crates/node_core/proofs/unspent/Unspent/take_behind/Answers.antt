use Rattle.std.proofs.Common.{ap, subst}
use Rattle.world_model.specs.Node.{Node}
use Rattle.world_model.specs.Turn.{take_frame}
use Rattle.node_state.specs.declared.growing.Growing.{Growing}
use Rattle.node_state.specs.State.{node_of}
use Rattle.node_core.specs.Step.{Follows}
use Rattle.node_core.proofs.Turned.{settled}
use Rattle.node_core.proofs.unspent.Unspent.take_behind.Goals as goal

pub returns : goal.returns
returns c =
    subst (λ (n : Node). Follows (take_frame c.args.script.now n c.args.from c.args.frame) n
    (node_of c.finish.new.step.node) c.args.made.now c.take_growing-turned.new.made c.finish.result) c.self.view_is
    (settled _ _ _ _ c.args.made.now c.take_growing-turned.new.made c.take_growing-turned.result c.finish.result
    c.take_growing-turned.ensures.turned c.finish.ensures.same
    (λ well. ap (λ (g : Growing). node_of g.node) (c.finish.ensures.left well)))
