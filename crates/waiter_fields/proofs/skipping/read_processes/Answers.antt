use Rattle.std.proofs.Common.{◌≡◌, ◌++◌, ◌∷◌, [], ℕ, arith}
use Rattle.pico_base.specs.declared.fault.UnpackFault.TheVariants.{NotABody}
use Rattle.frame_bytes.specs.Readers.{many}
use Rattle.frame_bytes.proofs.Loop.{ends, goes_on, is_done}
use Rattle.waiter_fields.specs.Ranges.{process_at}
use Rattle.waiter_fields.proofs.skipping.read_processes.Goals as goal

pub returns-in_err-pid : goal.returns-in_err-pid
returns-in_err-pid g c =
    let read = process_at g.C.WaitingCalls.call_at in
    rw c.from_residual.ensures
    (ends ℕ read NotABody c.loop.into.items c.args.count c.loop.counter c.loop.rest.now
    (many read c.args.count c.args.bytes.now) c.loop-test.true c.in_err-pid.ensures c.loop.invariant.read)

pub loop-preserved : goal.loop-preserved
loop-preserved g c =
    let read = process_at g.C.WaitingCalls.call_at in
    let pushed : c.push.new.self.items ≡ c.loop.into.items ++ c.in_ok-pid.pid ∷ [] = c.push.ensures.items in
    record {
      read = rw pushed (goes_on ℕ read c.loop.into.items c.args.count c.loop.counter c.loop.rest.now c.in_ok-pid.pid
          c.in_ok-pid.after.now (many read c.args.count c.args.bytes.now) c.loop-test.true c.in_ok-pid.ensures
          c.loop.invariant.read);
      so_far = omega (arith, c.loop.invariant.so_far, c.push.ensures.len);
    }

pub returns : goal.returns
returns g c =
    let read = process_at g.C.WaitingCalls.call_at in
    is_done ℕ read c.loop.into.items c.args.count c.loop.counter c.loop.rest.now
    (many read c.args.count c.args.bytes.now) c.loop-test.false c.loop.invariant.read
