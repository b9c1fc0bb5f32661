use Rattle.std.proofs.Common.{◌≡◌, ◌++◌, take}
use Rattle.signal_state.proofs.writing.write_bytes.Given as goal

abbrev pub invariant-loop-byte : goal.invariant-loop-byte
invariant-loop-byte l = l.into.items ≡ l.fn.into.items ++ take l.byte-index l.bytes
