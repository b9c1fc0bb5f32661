use Rattle.pico_run.specs.Turning.{IsTurning}
use Rattle.pico_run.proofs.threads.turn_until_quiet.Given as goal

-- it is the same node, and may make turns
abbrev pub invariant-loop : goal.invariant-loop
invariant-loop g l = record {
  can_next : (goal.iterator-loop g).can_next l.iterator';
  is_finite : (goal.iterator-loop g).is_finite l.iterator';
  turning : IsTurning l.fn.script l.fn.lock l.fn.logged l.logged;
}
