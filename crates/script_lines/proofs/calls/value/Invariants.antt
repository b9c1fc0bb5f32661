use Rattle.std.proofs.Common.{◌≡◌, drop}
use Rattle.kernel_model.specs.Script.{value_of}
use Rattle.script_lines.proofs.calls.value.Given as goal

-- the variable isn't among those so far
abbrev pub invariant-loop-name : goal.invariant-loop-name
invariant-loop-name l = value_of (drop l.name-index l.vars) l.variable ≡ value_of l.vars l.variable
