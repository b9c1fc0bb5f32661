use Rattle.std.proofs.Common.{◌≡◌, ◌++◌}
use Rattle.sysv_sem.specs.Waiters.{waiters_in}
use Rattle.sysv_sem.proofs.unpack.linked.Given as goal

-- those who are linked, and those who are left, are all
abbrev pub invariant-loop-waiter : goal.invariant-loop-waiter
invariant-loop-waiter l = waiters_in l.links.nodes ++ l.waiter-iterator.rest.items ≡ l.fn.waiters.items
