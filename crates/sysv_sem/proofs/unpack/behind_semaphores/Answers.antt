use Rattle.kernel_model.specs.SemaphoreSet.{Semaphore}
use Rattle.sysv_sem.proofs.Passing.{begins-passing, has-passed, passes-on}
use Rattle.sysv_sem.proofs.unpack.behind_semaphores.Goals as goal

pub loop-init : goal.loop-init
loop-init c = begins-passing c.args.count c.args.bytes.now

pub loop-preserved : goal.loop-preserved
loop-preserved c =
    let s : Semaphore = record { value = c.in_ok-after.field-0-0; last = c.in_ok-after.field-0-1 } in
    passes-on c.args.count c.loop.counter c.args.bytes.now c.loop.rest.now c.in_ok-after.after.now s c.loop-test.true
    c.in_ok-after.ensures c.loop.invariant

pub returns : goal.returns
returns c = has-passed c.args.count c.loop.counter c.args.bytes.now c.loop.rest.now c.loop-test.false c.loop.invariant
