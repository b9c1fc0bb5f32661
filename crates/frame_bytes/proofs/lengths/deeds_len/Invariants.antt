use Rattle.std.proofs.Common.{◌≡◌, ◌+◌, ◌*◌, ◌^◌, ◌≤◌, length, take}
use Rattle.std.specs.List.{flat_map}
use Rattle.frame_bytes.specs.Frames.{deed_field}
use Rattle.frame_bytes.proofs.lengths.deeds_len.Given as goal

abbrev pub invariant-loop-deed : goal.invariant-loop-deed
invariant-loop-deed l = record {
  len : l.len ≡ 1 + length (flat_map deed_field (take l.deed-index l.deeds));
  few : l.len ≤ 1 + 2 ^ 34 * l.deed-index;
}
