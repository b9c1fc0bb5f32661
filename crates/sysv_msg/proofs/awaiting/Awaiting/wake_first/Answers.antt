use Rattle.std.proofs.Common.{arith}
use Rattle.waiting_model.specs.Queue.{try_queue}
use Rattle.waiter_fields.proofs.SettleLemmas.{wakes-nobody, waits-further, wakes-there}
use Rattle.sysv_msg.proofs.awaiting.Awaiting.wake_first.Goals as goal

pub loop-place-preserved : goal.loop-place-preserved
loop-place-preserved c =
    let at = rw (c.loop-place.invariant.same, c.in_default.is) at c.wake_at.ensures
    in let further = waits-further try_queue c.args.self.now c.wake_at.new.self c.loop-place.place
    c.loop-place.invariant.wait (omega (arith, c.len-all.ensures)) at
    in record { same = further.1; wait = further.0 }

pub returns-in-Some : goal.returns-in-Some
returns-in-Some c =
    let at = rw (c.loop-place.invariant.same, c.in-Some.is) at c.wake_at.ensures
    in wakes-there try_queue c.args.self.now c.wake_at.new.self c.loop-place.place c.in-Some.wake
    c.loop-place.invariant.wait at

pub returns : goal.returns
returns c =
    wakes-nobody try_queue c.args.self.now c.loop-place.self c.loop-place.place c.loop-place.invariant.wait
    (omega (arith, c.len-all.ensures)) c.loop-place.invariant.same
