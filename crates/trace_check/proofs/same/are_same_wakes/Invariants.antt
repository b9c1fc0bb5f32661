use Rattle.std.proofs.Common.{◌≡◌, length}
use Rattle.trace_check.specs.FirstFault.{are_same_wakes}
use Rattle.trace_check.proofs.same.are_same_wakes.Given as goal

-- what is left is the same exactly where the whole is
abbrev pub invariant-loop-wake : goal.invariant-loop-wake
invariant-loop-wake l = are_same_wakes l.rest l.against ≡ are_same_wakes l.woken l.others

abbrev pub decreases-loop-wake : goal.decreases-loop-wake
decreases-loop-wake l = length l.rest
