use Rattle.std.proofs.Common.{◌≡◌, true}
use Rattle.frame_bytes.specs.Limits.{is_call}
use Rattle.sysv_sem.proofs.Packing.{ArePacked, packs_further, each_there}
use Rattle.sysv_sem.proofs.Walk.{there, further}
use Rattle.sysv_sem.proofs.pack.push_waiters.Goals as goal

pub value-requires : goal.value-requires
value-requires c =
    there c.args.waiters.now.nodes (ArePacked c.args.out.now.items c.loop.out.items) c.loop.at c.loop.counter
    c.in-Some.slot c.have_own_slots.ensures c.in-Some.is c.loop.invariant

pub push_waiter-requires : goal.push_waiter-requires
push_waiter-requires c =
    each_there (λ w. is_call w.call ≡ true) c.in-Some.slot c.value.result.now c.args.waiters.now.nodes c.requires
    c.value.ensures

pub loop-preserved : goal.loop-preserved
loop-preserved c =
    further c.args.waiters.now.nodes (ArePacked c.args.out.now.items c.loop.out.items)
    (ArePacked c.args.out.now.items c.push_waiter.new.out.items) c.loop.at c.next-at.result c.loop.counter
    c.in-Some.slot c.value.result.now c.have_own_slots.ensures c.in-Some.is c.value.ensures c.next-at.ensures.slot
    (packs_further c.args.out.now.items c.loop.out.items c.push_waiter.new.out.items c.value.result.now
    c.in_ok-push_waiter.ensures.field c.in_ok-push_waiter.ensures.ranges) c.loop.invariant
