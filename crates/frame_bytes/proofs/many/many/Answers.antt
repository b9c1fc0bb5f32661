use Rattle.std.proofs.lemmas.Result.{err_from_is_err_and}
use Rattle.frame_bytes.specs.Readers.{many}
use Rattle.frame_bytes.proofs.Loop.{goes_on, ends, is_done}
use Rattle.frame_bytes.proofs.many.many.Goals as goal

pub returns-in_err-item : goal.returns-in_err-item
returns-in_err-item g c =
    let p = err_from_is_err_and c.from_residual.result c.from_residual.ensures.1 in
    rw (p.1, p.2) (ends _ g.T.Item.reader c.in_err-item.field-0.0 c.loop.items.items c.args.count c.loop.counter
    c.loop.rest.now (many g.T.Item.reader c.args.count c.args.bytes.now) c.loop-test.true c.in_err-item.ensures
    c.loop.invariant)

pub loop-preserved : goal.loop-preserved
loop-preserved g c =
    let pushed = c.in_ok-push.ensures.items in
    let on = goes_on _ g.T.Item.reader c.loop.items.items c.args.count c.loop.counter c.loop.rest.now c.in_ok-item.item
    c.in_ok-item.after.now
    (many g.T.Item.reader c.args.count c.args.bytes.now) c.loop-test.true c.in_ok-item.ensures c.loop.invariant in
    rw pushed on

pub returns : goal.returns
returns g c = is_done _ g.T.Item.reader c.loop.items.items c.args.count c.loop.counter c.loop.rest.now
    (many g.T.Item.reader c.args.count c.args.bytes.now) c.loop-test.false c.loop.invariant
