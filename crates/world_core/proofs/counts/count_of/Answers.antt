use Rattle.std.proofs.Common.{◌+◌, Bool, cond, length, ap, arith}
use Rattle.world_core.specs.Inbox.{senders}
use Rattle.world_core.proofs.Counting.{count-is}
use Rattle.world_core.proofs.counts.count_of.Goals as goal

pub returns-then-can_run : goal.returns-then-can_run
returns-then-can_run c =
    let e = count-is c.args.pico.now c.args.inbox.now c.born.result c.can_run.result c.requires.whole c.born.ensures
    c.can_run.ensures in
    let runs = ap (λ (b : Bool). length (senders c.born.result c.args.inbox.now) + cond b 1 0) c.if-can_run.true in
    omega (arith, e, runs, c.count-takes.ensures.count)

pub returns-else-can_run : goal.returns-else-can_run
returns-else-can_run c =
    let e = count-is c.args.pico.now c.args.inbox.now c.born.result c.can_run.result c.requires.whole c.born.ensures
    c.can_run.ensures in
    let rests = ap (λ (b : Bool). length (senders c.born.result c.args.inbox.now) + cond b 1 0) c.if-can_run.false in
    omega (arith, e, rests, c.count-takes.ensures.count)
