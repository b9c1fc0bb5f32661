use Rattle.std.proofs.Common.{◌≡◌, ◌++◌, replicate}
use Rattle.script_writer.specs.Generated as spec
use Rattle.script_writer.proofs.generator.push_receives.Given as goal

-- the lines so far
abbrev pub invariant-loop : goal.invariant-loop
invariant-loop l = l.lines ≡ l.initial.lines ++ replicate l.counter (spec.receive l.queue)
