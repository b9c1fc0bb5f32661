use Rattle.std.proofs.Common.{◌≡◌, ◌++◌, take}
use Rattle.std.specs.List.{flat_map}
use Rattle.kernel_model.specs.Trace as trace
use Rattle.trace_text.proofs.print_semaphores.push_semop.Given as goal

-- the operations so far
abbrev pub invariant-loop-step : goal.invariant-loop-step
invariant-loop-step l = l.out.items ≡ l.initial.out.items ++ flat_map trace.step_text (take l.step-index l.steps)
