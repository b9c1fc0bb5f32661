use Rattle.std.proofs.Common.{sym}
use Rattle.mono_kernel.proofs.CarriedLemmas.{changed-lands}
use Rattle.mono_kernel.proofs.maps.leave_set.Goals as goal

pub returns-in-Some : goal.returns-in-Some
returns-in-Some c =
    changed-lands _ c.args.sets.now.entries _ c.args.id c.in-Some.set.now c.withdraw.new.self
    c.get_mut.ensures.ordered (sym c.in-Some.ensures.value) c.withdraw.ensures
    (c.get_mut.follows.holds c.withdraw.new.self).0
