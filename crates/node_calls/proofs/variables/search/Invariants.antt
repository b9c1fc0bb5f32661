use Rattle.std.proofs.Common.{◌-◌}
use Rattle.node_calls.proofs.VariableLemmas.{Narrowed}
use Rattle.node_calls.proofs.variables.search.Given as goal

abbrev pub invariant-loop-low : goal.invariant-loop-low
invariant-loop-low l = Narrowed l.values l.fn.variable l.low l.high

abbrev pub decreases-loop-low : goal.decreases-loop-low
decreases-loop-low l = l.high - l.low
