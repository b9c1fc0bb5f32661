use Rattle.std.proofs.Common.{◌≡◌, [], replicate}
use Rattle.world_core.proofs.state.empty_inboxes.Given as goal

abbrev pub invariant-loop-node : goal.invariant-loop-node
invariant-loop-node l = l.inboxes.items ≡ replicate l._node (replicate l.count [])
