use Rattle.std.proofs.Common.{◌≡◌, ◌+◌, ◌*◌, ◌++◌, length, take}
use Rattle.std.specs.Int.{w32, to_be_bytes}
use Rattle.std.specs.List.{flat_map}
use Rattle.pico_base.specs.Signal.{at}
use Rattle.signal_state.proofs.writing.write_counts.Given as goal

abbrev pub invariant-loop-sig : goal.invariant-loop-sig
invariant-loop-sig l =
    record {
      written : l.into.items ≡ l.fn.into.items
          ++ flat_map (λ g. to_be_bytes w32 (at l.counts g)) (take l.sig-index l.sigs);
      room : length l.into.items ≡ length l.fn.into.items + 4 * l.sig-index;
    }
