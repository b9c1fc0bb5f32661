use Rattle.std.proofs.Common.{◌≡◌, ◌++◌, ◌∷◌, [], arith}
use Rattle.std.specs.Int.{w32}
use Rattle.body_fields.specs.Fields.{number_at}
use Rattle.body_fields.proofs.Many.{ends, goes_on, is_done}
use Rattle.fork_wait.specs.Reading.{numbers_at}
use Rattle.fork_wait.proofs.reading.read_numbers.Goals as goal

pub returns-in_err-number : goal.returns-in_err-number
unfolding numbers_at
returns-in_err-number c =
    rw c.from_residual.ensures
    (ends (number_at w32) c.loop.into.items c.args.count c.loop.counter c.loop.rest.now
    (numbers_at c.args.count c.args.bytes.now) c.loop-test.true c.in_err-number.ensures c.loop.invariant.read)

pub loop-preserved : goal.loop-preserved
unfolding numbers_at
loop-preserved c =
    let pushed : c.push.new.self.items ≡ c.loop.into.items ++ c.in_ok-number.number ∷ [] = c.push.ensures.items in
    record {
      read = rw pushed (goes_on (number_at w32) c.loop.into.items c.args.count c.loop.counter c.loop.rest.now
          c.in_ok-number.number c.in_ok-number.after.now
          (numbers_at c.args.count c.args.bytes.now) c.loop-test.true c.in_ok-number.ensures c.loop.invariant.read);
      so_far = omega (arith, c.loop.invariant.so_far, c.push.ensures.len);
    }

pub returns : goal.returns
unfolding numbers_at
returns c = is_done (number_at w32) c.loop.into.items c.args.count c.loop.counter c.loop.rest.now
    (numbers_at c.args.count c.args.bytes.now) c.loop-test.false c.loop.invariant.read
