use Rattle.std.proofs.Common.{◌≡◌, ◌++◌, length, take}
use Rattle.std.specs.List.{flat_map}
use Rattle.trace_text.specs.Steps.{event_line, steps_line}
use Rattle.trace_text.proofs.steps.write_steps.Given as goal

-- the line with their number, and the lines so far
abbrev pub invariant-loop-event : goal.invariant-loop-event
invariant-loop-event l = l.out.items ≡ steps_line (length l.events) ++ flat_map event_line (take l.event-index l.events)
