use Rattle.std.proofs.Common.{◌≡◌, ◌+◌, ◌-◌, ◌≤◌, not, drop, length}
use Rattle.std.specs.List.{position_or_len}
use Rattle.script_reader.specs.Words.{is_blank}
use Rattle.script_reader.proofs.words.solid_from.Given as goal

-- what is left to be passed
abbrev pub invariant-loop-at : goal.invariant-loop-at
invariant-loop-at l =
    record {
      left : l.at + position_or_len (λ b. not (is_blank b)) (drop l.at l.line)
          ≡ l.fn.start + position_or_len (λ b. not (is_blank b)) (drop l.fn.start l.line);
      within : l.at ≤ length l.line;
    }

abbrev pub decreases-loop-at : goal.decreases-loop-at
decreases-loop-at l = length l.line - l.at
