use Rattle.std.proofs.lemmas.Result.{err_from_is_err_and}
use Rattle.frame_bytes.specs.Readers.{many}
use Rattle.frame_bytes.proofs.Loop.{goes_on, ends, is_done}
use Rattle.waiting_model.specs.declared.callers.Waiting.{Waiting}
use Rattle.sysv_sem.specs.Reading.{waiter_at}
use Rattle.sysv_sem.proofs.unpack.many_waiters_of.Goals as goal

pub returns-in_err-waiter : goal.returns-in_err-waiter
returns-in_err-waiter c =
    let p = err_from_is_err_and c.from_residual.result c.from_residual.ensures.1 in
    rw (p.1, p.2)
    (ends Waiting waiter_at c.in_err-waiter.field-0.0 c.loop.waiters.items c.args.count c.loop.counter c.loop.rest.now
    (many waiter_at c.args.count c.args.bytes.now) c.loop-test.true c.in_err-waiter.ensures c.loop.invariant)

pub loop-preserved : goal.loop-preserved
loop-preserved c =
    rw c.in_ok-push.ensures.items
    (goes_on Waiting waiter_at c.loop.waiters.items c.args.count c.loop.counter c.loop.rest.now c.in_ok-waiter.waiter
    c.in_ok-waiter.after.now (many waiter_at c.args.count c.args.bytes.now) c.loop-test.true c.in_ok-waiter.ensures
    c.loop.invariant)

pub returns : goal.returns
returns c =
    is_done Waiting waiter_at c.loop.waiters.items c.args.count c.loop.counter c.loop.rest.now
    (many waiter_at c.args.count c.args.bytes.now) c.loop-test.false c.loop.invariant
