use Rattle.std.proofs.Common.{◌-◌, ◌^◌}
use Rattle.pico_cmd.specs.Schedule.{schedule_in}
use Rattle.pico_cmd.proofs.Goings.{IsRunning}
use Rattle.pico_cmd.proofs.run.run_script.Given as goal

-- the run so far
abbrev pub invariant-loop-event : goal.invariant-loop-event
invariant-loop-event l =
    IsRunning l.fn.script l.seed l.fn.telling.lines l.steps l.events.items l.telling l.world (schedule_in l.schedule)

-- how many events more could be counted
abbrev pub decreases-loop-event : goal.decreases-loop-event
decreases-loop-event l = 2 ^ 64 - l.count
