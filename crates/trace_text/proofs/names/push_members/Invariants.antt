use Rattle.std.proofs.Common.{◌≡◌, ◌++◌, take}
use Rattle.std.specs.List.{filter, list_any}
use Rattle.pico_base.specs.Signal.{at, all_signals}
use Rattle.kernel_model.specs.Trace as trace
use Rattle.trace_text.proofs.names.push_members.Given as goal

-- the members so far
abbrev pub invariant-loop-place : goal.invariant-loop-place
invariant-loop-place l = record {
  names : l.out.items
      ≡ l.initial.out.items ++ trace.commas trace.signal_name (filter (at l.fn.set) (take l.place all_signals));
  begun : l.begun ≡ list_any (at l.fn.set) (take l.place all_signals);
}
