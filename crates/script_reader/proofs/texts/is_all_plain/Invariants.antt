use Rattle.std.proofs.Common.{◌-◌, ◌≤◌, length}
use Rattle.kernel_model.specs.Texts.{is_plain}
use Rattle.script_reader.proofs.Lanes.{AllPass}
use Rattle.script_reader.proofs.texts.is_all_plain.Given as goal

-- the bytes so far
abbrev pub invariant-loop-at : goal.invariant-loop-at
invariant-loop-at l =
    record {
      passed : AllPass is_plain l.bytes 0 l.at;
      within : l.at ≤ length l.bytes;
    }

abbrev pub decreases-loop-at : goal.decreases-loop-at
decreases-loop-at l = length l.bytes - l.at
