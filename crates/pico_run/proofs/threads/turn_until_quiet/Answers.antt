use Rattle.std.proofs.Common.{◌≤◌, subst}
use Rattle.pico_run.specs.Turning.{quiet_turns}
use Rattle.pico_run.proofs.Turns.{turning-on, worked-faulty, worked-quiet}
use Rattle.pico_run.proofs.threads.turn_until_quiet.Goals as goal

pub returns-then-not-turn_on : goal.returns-then-not-turn_on
returns-then-not-turn_on g c =
    worked-faulty c.args.script.now c.args.lock.now c.args.logged.now c.turn_on.new.logged
    (turning-on c.args.script.now c.args.lock.now c.args.logged.now c.loop.logged c.turn_on.new.logged
    c.loop.invariant.turning c.turn_on.ensures.turning)
    (c.turn_on.ensures.faulty c.if-not-turn_on.true)

pub returns-then-quiet-ge-QUIET : goal.returns-then-quiet-ge-QUIET
returns-then-quiet-ge-QUIET g c =
    worked-quiet c.args.script.now c.args.lock.now c.args.logged.now c.turn_on.new.logged
    (turning-on c.args.script.now c.args.lock.now c.args.logged.now c.loop.logged c.turn_on.new.logged
    c.loop.invariant.turning c.turn_on.ensures.turning)
    (subst (λ n. quiet_turns ≤ n) c.quiet.ensures c.if-quiet-ge-QUIET.true)

pub loop-preserved : goal.loop-preserved
loop-preserved g c = record {
  can_next = tt;
  is_finite = tt;
  turning =
      turning-on c.args.script.now c.args.lock.now c.args.logged.now c.loop.logged c.turn_on.new.logged
      c.loop.invariant.turning c.turn_on.ensures.turning;
}
