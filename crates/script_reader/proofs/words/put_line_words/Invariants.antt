use Rattle.std.proofs.Common.{◌-◌, length}
use Rattle.script_reader.proofs.Parting.{IsParted}
use Rattle.script_reader.proofs.words.put_line_words.Given as goal

abbrev pub invariant-loop-start : goal.invariant-loop-start
invariant-loop-start l = IsParted l.fn.line l.words.items l.at

abbrev pub decreases-loop-start : goal.decreases-loop-start
decreases-loop-start l = length l.fn.line - l.at
