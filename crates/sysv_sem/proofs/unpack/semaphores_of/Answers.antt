use Rattle.std.proofs.Common.{◌≡◌, rules}
use Rattle.frame_bytes.specs.Readers.{many}
use Rattle.frame_bytes.proofs.Loop.{goes_on, ends, is_done}
use Rattle.kernel_model.specs.SemaphoreSet.{Semaphore}
use Rattle.pico_base.specs.declared.fault.UnpackFault.TheVariants.{NotABody}
use Rattle.sysv_sem.specs.Reading.{semaphore_at}
use Rattle.sysv_sem.proofs.Bodies.{value_same}
use Rattle.sysv_sem.proofs.unpack.semaphores_of.Goals as goal

pub returns-in_default : goal.returns-in_default
returns-in_default c =
    ends Semaphore semaphore_at NotABody c.loop.row.items c.args.count c.loop.counter c.loop.rest.now
    (many semaphore_at c.args.count c.args.bytes.now) c.loop-test.true c.in_default.ensures c.loop.invariant

pub loop-preserved : goal.loop-preserved
loop-preserved c =
    let same : c.from-in-loop.result ≡ c.in-Some.value = search rules in
    let s : Semaphore = record { value = c.from-in-loop.result; last = c.in-Some.last } in
    rw c.in_ok-push.ensures.items
    (goes_on Semaphore semaphore_at c.loop.row.items c.args.count c.loop.counter c.loop.rest.now s
    c.in-Some.after.now (many semaphore_at c.args.count c.args.bytes.now) c.loop-test.true
    (value_same c.loop.rest.now c.in-Some.after.now c.in-Some.value c.from-in-loop.result c.in-Some.last same
    c.in-Some.ensures) c.loop.invariant)

pub returns : goal.returns
returns c =
    is_done Semaphore semaphore_at c.loop.row.items c.args.count c.loop.counter c.loop.rest.now
    (many semaphore_at c.args.count c.args.bytes.now) c.loop-test.false c.loop.invariant
