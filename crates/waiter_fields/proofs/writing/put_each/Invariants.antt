use Rattle.std.proofs.Common.{◌≡◌, ◌++◌, take}
use Rattle.std.specs.List.{flat_map, AllByRecursion}
use Rattle.waiter_fields.specs.Ranges.{HasWaiterRanges}
use Rattle.waiter_fields.specs.Waiters.{waiter_field}
use Rattle.waiter_fields.proofs.writing.put_each.Given as goal

abbrev pub invariant-loop-waiter : goal.invariant-loop-waiter
invariant-loop-waiter l =
    record {
      bytes : l.out.items ≡ l.fn.out.items ++ flat_map waiter_field (take l.waiter-index l.waiters);
      fits : AllByRecursion HasWaiterRanges (take l.waiter-index l.waiters);
    }
