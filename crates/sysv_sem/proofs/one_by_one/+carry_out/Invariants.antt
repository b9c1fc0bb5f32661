use Rattle.std.proofs.Common.{length}
use Rattle.sysv_sem.proofs.one_by_one.+carry_out.Given as goal

abbrev pub decreases-carry_out : goal.decreases-carry_out
decreases-carry_out l = length l.steps.now
