use Rattle.std.proofs.lemmas.Result.{err_from_is_err_and}
use Rattle.waiting_model.specs.declared.callers.Waiting.{Waiting}
use Rattle.frame_bytes.specs.Readers.{many}
use Rattle.frame_bytes.proofs.Loop.{goes_on, ends, is_done}
use Rattle.waiter_fields.specs.Waiters.{waiter_at}
use Rattle.waiter_fields.proofs.reading.read_many.Goals as goal

pub returns-in_err-waiter : goal.returns-in_err-waiter
returns-in_err-waiter g c =
    let read = waiter_at g.C.WaitingCalls.call_at in
    let p = err_from_is_err_and c.from_residual.result c.from_residual.ensures.1 in
    rw (p.1, p.2) (ends Waiting read c.in_err-waiter.field-0.0 c.loop.waiters.items c.args.count c.loop.counter
    c.loop.rest.now (many read c.args.count c.args.bytes.now) c.loop-test.true c.in_err-waiter.ensures
    c.loop.invariant)

pub loop-preserved : goal.loop-preserved
loop-preserved g c =
    let read = waiter_at g.C.WaitingCalls.call_at in
    let pushed = c.in_ok-push.ensures.items in
    let on = goes_on Waiting read c.loop.waiters.items c.args.count c.loop.counter c.loop.rest.now
    c.in_ok-waiter.waiter c.in_ok-waiter.after.now (many read c.args.count c.args.bytes.now) c.loop-test.true
    c.in_ok-waiter.ensures c.loop.invariant in
    rw pushed on

pub returns : goal.returns
returns g c =
    let read = waiter_at g.C.WaitingCalls.call_at in
    is_done Waiting read c.loop.waiters.items c.args.count c.loop.counter c.loop.rest.now
    (many read c.args.count c.args.bytes.now) c.loop-test.false c.loop.invariant
