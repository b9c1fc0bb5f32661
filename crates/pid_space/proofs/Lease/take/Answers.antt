use Rattle.std.proofs.Common.{◌∙◌, sym, arith}
use Rattle.pid_space.proofs.Ranges.{range-first, range-rising}
use Rattle.pid_space.proofs.Lease.take.Goals as goal

pub returns-clause-rising : goal.returns-clause-rising
returns-clause-rising c = rw (← c.self.view_is) (range-rising _ _)

pub returns-clause-first : goal.returns-clause-first
returns-clause-first c = sym c.self.view_is ∙ range-first c.self.inside.next c.self.inside.end (omega arith)
