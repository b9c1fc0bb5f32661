use Rattle.std.proofs.Common.{◌≡◌, ◌+◌, ◌-◌, ◌≤◌, List, length}
use Rattle.pico_base.specs.declared.reply.Entry.{Entry}
use Rattle.trace_check.specs.Cursors.{AreSteady}
use Rattle.trace_check.specs.FirstFault.{judge_from, verdict_of}
use Rattle.trace_check.specs.Judging.{so_far_of}
use Rattle.trace_text.specs.Totals.{tally_of}
use Rattle.trace_check.proofs.check.judge_lines.Given as goal

-- the entries so far, and the lines that are left behind them
abbrev pub invariant-loop : goal.invariant-loop
invariant-loop l = record {
  done : List Entry;
  tally : l.judge.tally ≡ tally_of done;
  steady : AreSteady l.script l.judge.cursors.entries;
  so_far : judge_from l.script (l.end - l.counter) l.line l.left done
      (so_far_of l.script l.judge.kernel l.judge.cursors.entries) l.rest
      ≡ verdict_of l.script l.fn.bytes l.fn.first_line;
  few : l.line + l.left ≤ l.fn.first_line + 67108864;
  count : l.fn.first_line + length done ≡ l.line;
}
