use Rattle.std.proofs.Common.{◌≡◌, drop}
use Rattle.std.specs.List.{list_all}
use Rattle.frame_bytes.specs.Limits.{is_deed}
use Rattle.frame_bytes.proofs.limits.are_all_deeds.Given as goal

abbrev pub invariant-loop-deed : goal.invariant-loop-deed
invariant-loop-deed l = list_all is_deed (drop l.deed-index l.deeds) ≡ list_all is_deed l.deeds
