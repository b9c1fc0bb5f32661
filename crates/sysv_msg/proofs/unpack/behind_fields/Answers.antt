use Rattle.sysv_msg.proofs.Passing.{state-there}
use Rattle.sysv_msg.proofs.unpack.behind_fields.Goals as goal

pub returns : goal.returns
returns c =
    state-there c.args.bytes.now c.in_ok-rest.rest.now c.in_ok-behind.behind.now
    (c.in_ok-rest.field-0-0, c.in_ok-rest.field-0-1, c.in_ok-rest.field-0-2) c.in_ok-rest.ensures
    c.in_ok-behind.ensures
