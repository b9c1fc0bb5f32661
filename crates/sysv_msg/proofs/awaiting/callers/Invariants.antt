use Rattle.std.proofs.Common.{◌≡◌, map, take}
use Rattle.sysv_msg.proofs.awaiting.callers.Given as goal

abbrev pub invariant-loop-waiter : goal.invariant-loop-waiter
invariant-loop-waiter l = l.nodes.items ≡ map (λ w. w.caller) (take l.waiter-index l.waiters)
