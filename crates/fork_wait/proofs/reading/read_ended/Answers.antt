use Rattle.std.proofs.Common.{◌≡◌, ◌++◌, ◌∷◌, [], arith}
use Rattle.body_fields.proofs.Many.{ends, goes_on, is_done}
use Rattle.kernel_model.specs.Row.{ended_child}
use Rattle.fork_wait.specs.Reading.{all_ended_at, ended_at}
use Rattle.fork_wait.proofs.reading.read_ended.Goals as goal

pub returns-in_err-number : goal.returns-in_err-number
unfolding all_ended_at
returns-in_err-number c =
    rw c.from_residual.ensures
    (ends ended_at c.loop.into.items c.args.count c.loop.counter c.loop.rest.now
    (all_ended_at c.args.count c.args.bytes.now) c.loop-test.true c.in_err-number.ensures c.loop.invariant.read)

pub loop-preserved : goal.loop-preserved
unfolding all_ended_at
loop-preserved c =
    let pushed : c.push.new.self.items ≡ c.loop.into.items ++ (ended_child c.in_ok-number.number c.in_ok-number.ending)
    ∷ [] = c.push.ensures.items in
    record {
      read = rw pushed (goes_on ended_at c.loop.into.items c.args.count c.loop.counter c.loop.rest.now
          (ended_child c.in_ok-number.number c.in_ok-number.ending) c.in_ok-number.after.now
          (all_ended_at c.args.count c.args.bytes.now) c.loop-test.true c.in_ok-number.ensures c.loop.invariant.read);
      so_far = omega (arith, c.loop.invariant.so_far, c.push.ensures.len);
    }

pub returns : goal.returns
unfolding all_ended_at
returns c = is_done ended_at c.loop.into.items c.args.count c.loop.counter c.loop.rest.now
    (all_ended_at c.args.count c.args.bytes.now) c.loop-test.false c.loop.invariant.read
