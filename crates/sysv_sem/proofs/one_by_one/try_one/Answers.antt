use Rattle.std.proofs.Common.{◌<◌, length, arith}
use Rattle.sysv_sem.proofs.Single.{single-goes, single-told}
use Rattle.sysv_sem.proofs.one_by_one.try_one.Goals as goal

pub returns-in-Ok : goal.returns-in-Ok
returns-in-Ok c =
    let inside : c.args.step.now.num < length c.args.set.now = omega (arith, c.if-place-set.false)
    in let moved = rw (c.value-before.ensures, ← c.index-set-place.is) at c.in-Ok.ensures
    in single-goes c.args.set.now c.args.pid c.args.step.now c.index-set-place.result inside c.index-set-place.is
    c.in-Ok.value moved

pub returns-in-Err : goal.returns-in-Err
returns-in-Err c =
    let inside : c.args.step.now.num < length c.args.set.now = omega (arith, c.if-place-set.false)
    in let moved = rw (c.value-before.ensures, ← c.index-set-place.is) at c.in-Err.ensures
    in rw c.told_of.ensures
    (single-told c.args.set.now c.args.pid c.args.step.now c.index-set-place.result inside c.index-set-place.is
    c.in-Err.errno moved)
