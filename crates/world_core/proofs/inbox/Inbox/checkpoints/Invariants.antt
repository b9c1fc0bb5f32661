use Rattle.std.proofs.Common.{◌≡◌, false, take}
use Rattle.std.specs.List.{count_by}
use Rattle.world_core.specs.Inbox.{may_take}
use Rattle.world_core.proofs.inbox.Inbox.checkpoints.Given as goal

abbrev pub invariant-loop-stream : goal.invariant-loop-stream
invariant-loop-stream l = l.count ≡ count_by (may_take false) (take l.stream-index l.stream-items)
