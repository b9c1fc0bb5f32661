use Rattle.std.proofs.Common.{◌≡◌, map, take}
use Rattle.fork_wait.proofs.family.Family.ended.Given as goal

abbrev pub invariant-loop-child : goal.invariant-loop-child
invariant-loop-child l = l.pids.items ≡ map (λ e. e.pid) (take l.child-index l.self.ended)
