use Rattle.std.proofs.Common.{◌≡◌, drop}
use Rattle.node_calls.specs.Caller.{rise_from}
use Rattle.move_rules.proofs.births.rise_from.Given as goal

-- those that are left rise from the last one exactly where all do from the first
abbrev pub invariant-loop-variable : goal.invariant-loop-variable
invariant-loop-variable l = rise_from l.last (drop l.variable-index l.vars) ≡ rise_from l.fn.first l.vars
