use Rattle.std.proofs.Common.{◌≡◌, take, map}
use Rattle.pico_run.proofs.merging.plain.Given as goal

-- so far
abbrev pub invariant-loop-event : goal.invariant-loop-event
invariant-loop-event l = l.plain.items ≡ map (λ e. e.item) (take l.event-index l.events)
