use Rattle.std.proofs.Common.{◌≡◌, ◌+◌, drop, map}
use Rattle.frame_bytes.specs.Fields.{rise_from}
use Rattle.frame_bytes.specs.Frames.{process_of, are_processes}
use Rattle.frame_bytes.proofs.frame_reading.are_processes.Given as goal

abbrev pub invariant-loop-deed : goal.invariant-loop-deed
invariant-loop-deed l =
    rise_from (l.last + 1) (map (λ deed. process_of deed.name) (drop l.deed-index l.deeds)) ≡ are_processes l.deeds
