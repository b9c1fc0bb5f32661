use Rattle.std.proofs.Common.{◌≡◌, ◌+◌, ◌-◌, ◌≤◌, drop, length}
use Rattle.std.specs.List.{position_or_len}
use Rattle.script_reader.specs.Words.{is_blank}
use Rattle.script_reader.proofs.words.blank_from.Given as goal

-- what is left to be passed
abbrev pub invariant-loop-at : goal.invariant-loop-at
invariant-loop-at l =
    record {
      left : l.at + position_or_len is_blank (drop l.at l.line)
          ≡ l.fn.start + position_or_len is_blank (drop l.fn.start l.line);
      within : l.at ≤ length l.line;
    }

abbrev pub decreases-loop-at : goal.decreases-loop-at
decreases-loop-at l = length l.line - l.at
