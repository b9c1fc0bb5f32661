use Rattle.std.proofs.Common.{◌≡◌, ◌+◌, ◌-◌, ◌≤◌, length}
use Rattle.host_iface.specs.Told.{led_by}
use Rattle.host_iface.proofs.whole.read_all.Given as goal

-- the bytes so far, and then what is left, are what was left at first
abbrev pub invariant-loop-buffer : goal.invariant-loop-buffer
invariant-loop-buffer g l =
    record {
      within : length l.bytes.items ≤ l.limit + 1;
      bytes : g.S.Source.left l.fn.source ≡ led_by l.bytes.items (g.S.Source.left l.source);
      faults : g.S.Source.faults l.source ≡ g.S.Source.faults l.fn.source;
    }

abbrev pub decreases-loop-buffer : goal.decreases-loop-buffer
decreases-loop-buffer g l = (l.limit + 1) - length l.bytes.items
