-- The program's schedules.
use Rattle.world_model.specs.Schedule as machine
use Rattle.pico_cmd.specs.declared.schedule.Schedule.{Schedule}
use Rattle.pico_cmd.specs.declared.schedule.Schedule.TheVariants as schedules

-- the machine's schedule that it stands for
abbrev pub schedule_in : Schedule → machine.Schedule
schedule_in (schedules.InTurn last) = machine.InTurn last
schedule_in (schedules.Drawn last) = machine.Drawn last
