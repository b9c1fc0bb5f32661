use Rattle.std.proofs.Common.{◌≡◌, ◌-◌}
use Rattle.text_fields.specs.Fields.{many}
use Rattle.text_fields.proofs.Many.{onto}
use Rattle.trace_text.specs.Reading.{wake_at, wakes_at}
use Rattle.trace_text.proofs.entries.wakes.Given as goal

-- the callers so far, and those that are left
abbrev pub invariant-loop : goal.invariant-loop
invariant-loop l = onto l.woken (many wake_at (l.end - l.counter) l.rest) ≡ wakes_at l.fn.bytes
