use Rattle.std.proofs.Common.{rules}
use Rattle.posix_mq.proofs.Trips.{kept-given}
use Rattle.posix_mq.proofs.script.MqScript.of.Goals as goal

pub returns-clause-given : goal.returns-clause-given
returns-clause-given c =
    kept-given c.args.given.now c.in_ok-system_v.field-0 c.in_ok-kept_in.field-0 (search rules) (search rules)
