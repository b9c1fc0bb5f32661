use Rattle.world_core.proofs.Senders.{AreLeft}
use Rattle.world_core.proofs.inbox.Inbox.nth.Given as goal

abbrev pub invariant-loop-at : goal.invariant-loop-at
invariant-loop-at l = AreLeft l.is_born l.self l.index l.at l.left
