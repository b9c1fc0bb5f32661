use Rattle.std.proofs.Common.{◌∙◌, ◌<◌, length, sym, arith}
use Rattle.sysv_sem.proofs.Single.{single-stops}
use Rattle.sysv_sem.proofs.one_by_one.stops_at.Goals as goal

pub returns-in-Err-Eagain : goal.returns-in-Err-Eagain
returns-in-Err-Eagain c h pid =
    let inside : c.args.step.now.num < length c.args.set.now = omega (arith, c.if-place-set.false)
    in let moved = rw (c.value-before.ensures, c.in-Err-Eagain.field-0-is) at c.in-Err-Eagain.ensures
    in single-stops c.args.set.now pid c.args.step.now c.index-set-place.result inside c.index-set-place.is
    (sym c.may_wait.ensures ∙ c.if-not-may_wait.false) moved
