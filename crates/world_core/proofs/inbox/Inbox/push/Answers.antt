use Rattle.std.proofs.Common.{length, ap, arith}
use Rattle.world_core.proofs.Masks.{marked-pushed}
use Rattle.world_core.proofs.inbox.Inbox.push.Goals as goal

pub invariant_of-self-2 : goal.invariant_of-self-2
invariant_of-self-2 c =
    marked-pushed c.self.inside.filled c.self.inside.streams.items c.place-at.result _ c.push.new.self _
    c.self.invariant (omega (arith, ap length c.self.view_is)) c.in_ok-push.ensures.ok
