use Rattle.std.proofs.Common.{◌≡◌, [], replicate}
use Rattle.world_core.proofs.inbox.Inbox.new.Given as goal

abbrev pub invariant-loop-node : goal.invariant-loop-node
invariant-loop-node l = l.streams.items ≡ replicate l._node []
