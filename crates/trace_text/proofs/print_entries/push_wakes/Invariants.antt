use Rattle.std.proofs.Common.{◌≡◌, ◌++◌, take}
use Rattle.std.specs.List.{flat_map}
use Rattle.kernel_model.specs.Trace as trace
use Rattle.trace_text.proofs.print_entries.push_wakes.Given as goal

-- the callers so far
abbrev pub invariant-loop-pid : goal.invariant-loop-pid
invariant-loop-pid l = l.out.items ≡ l.initial.out.items ++ flat_map trace.wake_text (take l.pid-index l.woken)
