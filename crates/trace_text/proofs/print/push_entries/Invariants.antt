use Rattle.std.proofs.Common.{◌≡◌, ◌++◌, take}
use Rattle.std.specs.List.{flat_map}
use Rattle.kernel_model.specs.Trace as trace
use Rattle.trace_text.proofs.print.push_entries.Given as goal

-- the lines so far
abbrev pub invariant-loop-entry : goal.invariant-loop-entry
invariant-loop-entry l =
    l.out.items ≡ l.initial.out.items ++ flat_map (trace.entry_line l.script) (take l.entry-index l.entries)
