use Rattle.std.proofs.Common.{◌≤◌, ◌-◌, length, arith}
use Rattle.kernel_model.specs.Texts.{is_plain}
use Rattle.script_reader.proofs.Lanes.{covered}
use Rattle.script_reader.proofs.texts.is_all_plain.Goals as goal

pub returns : goal.returns
returns c plain =
    let xs = c.args.bytes.now in
    let long : 16 ≤ length xs = omega (arith, c.if-bytes-lt-LANES.false) in
    let seen : length xs - 16 ≤ c.loop-at.at = omega (arith, c.loop-at-test.false) in
    covered is_plain xs c.loop-at.at long seen c.loop-at.invariant.passed (c.are_plain_lanes-2.ensures plain)
