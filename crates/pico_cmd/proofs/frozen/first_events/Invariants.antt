use Rattle.pico_cmd.specs.Schedule.{schedule_in}
use Rattle.pico_cmd.proofs.Freezing.{IsFreezing}
use Rattle.pico_cmd.proofs.frozen.first_events.Given as goal

-- the events so far
abbrev pub invariant-loop-before : goal.invariant-loop-before
invariant-loop-before l =
    IsFreezing l.fn.script l.events.items l.before l.telling l.world (schedule_in l.schedule)
