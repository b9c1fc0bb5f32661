use Rattle.world_core.proofs.Openings.{opening_more}
use Rattle.world_core.proofs.state.opening_nodes.Goals as goal

pub loop-number-preserved : goal.loop-number-preserved
loop-number-preserved c =
    opening_more c.loop-number.number c.loop-number.nodes.items c.push.new.self.items c.in_ok-new.field-0
    c.loop-number.invariant
    c.in_ok-new.ensures c.in_ok-push.ensures.items
