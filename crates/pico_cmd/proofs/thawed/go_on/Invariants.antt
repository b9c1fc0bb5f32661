use Rattle.std.proofs.Common.{◌-◌, ◌^◌}
use Rattle.pico_cmd.proofs.Onward.{IsOnward}
use Rattle.pico_cmd.proofs.thawed.go_on.Given as goal

-- the events so far
abbrev pub invariant-loop-event : goal.invariant-loop-event
invariant-loop-event l = IsOnward l.fn.world l.fn.behind l.world l.last

-- how many events more could be counted
abbrev pub decreases-loop-event : goal.decreases-loop-event
decreases-loop-event l = 2 ^ 64 - l.count
