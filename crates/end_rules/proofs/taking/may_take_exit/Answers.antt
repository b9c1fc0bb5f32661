use Rattle.std.proofs.Common.{ap, not}
use Rattle.end_rules.proofs.Read.{and-on}
use Rattle.end_rules.proofs.Takes.{any-name}
use Rattle.end_rules.proofs.taking.may_take_exit.Goals as goal

pub returns-then-is_from_leader : goal.returns-then-is_from_leader
returns-then-is_from_leader c =
    rw any-name
    (and-on _ _ _ _ c.if-is_from_leader.true c.is_from_leader.ensures (ap not c.hold_any.ensures))
