use Rattle.lease_leader.proofs.Landing.{same-lands}
use Rattle.lease_leader.proofs.spots.hold_at.Goals as goal

pub returns-clause-err : goal.returns-clause-err
returns-clause-err c =
    same-lands c.args.spots.now.entries c.args.number c.entry_mut.result.now c.hold.new.self c.rise.ensures
    c.entry_mut.ensures.value c.hold.result c.hold.ensures.err
