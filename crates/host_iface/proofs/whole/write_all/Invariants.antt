use Rattle.std.proofs.Common.{length, ◌-◌, ◌≡◌, ◌≤◌, take}
use Rattle.host_iface.specs.Told.{followed_by}
use Rattle.host_iface.proofs.whole.write_all.Given as goal

-- the bytes up to here were taken
abbrev pub invariant-loop-taken : goal.invariant-loop-taken
invariant-loop-taken g l =
    record {
      within : l.taken ≤ length l.bytes;
      bytes : g.K.Sink.taken l.sink ≡ followed_by (g.K.Sink.taken l.fn.sink) (take l.taken l.bytes);
      faults : g.K.Sink.faults l.sink ≡ g.K.Sink.faults l.fn.sink;
    }

abbrev pub decreases-loop-taken : goal.decreases-loop-taken
decreases-loop-taken g l = length l.bytes - l.taken
