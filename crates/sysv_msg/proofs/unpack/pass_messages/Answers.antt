use Rattle.std.proofs.Common.{arith}
use Rattle.sysv_msg.specs.Reading.{message_of}
use Rattle.sysv_msg.proofs.Passing.{begins-passing, has-passed, passes-on}
use Rattle.sysv_msg.proofs.unpack.pass_messages.Goals as goal

pub loop-init : goal.loop-init
loop-init c = record { passed = begins-passing c.args.count c.args.bytes.now; small = omega arith }

pub loop-preserved : goal.loop-preserved
loop-preserved c =
    let small = c.loop.invariant.small in
    let within = c.in_ok-text.ensures.within in
    record {
      passed = passes-on c.args.count c.loop.counter c.loop.size c.args.bytes.now c.loop.rest.now
          c.in_ok-text.after.now (message_of c.in_ok-text.field-0-0 c.in_ok-text.text.now) c.loop-test.true
          c.in_ok-text.ensures.read c.loop.invariant.passed;
      small = omega (arith, small, within);
    }

pub returns : goal.returns
returns c =
    has-passed c.args.count c.loop.counter c.loop.size c.args.bytes.now c.loop.rest.now c.loop-test.false
    c.loop.invariant.passed
