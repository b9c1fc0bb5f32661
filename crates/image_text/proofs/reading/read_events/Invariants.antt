use Rattle.std.proofs.Common.{◌≡◌, ◌≤◌, ◌+◌, [], length}
use Rattle.script_reader.specs.Words.{lines_of}
use Rattle.image_text.specs.Reading.{events_from}
use Rattle.image_text.proofs.reading.read_events.Given as goal

-- the lines that are left, behind those so far
abbrev pub invariant-loop-line : goal.invariant-loop-line
invariant-loop-line l = record {
  so_far : events_from l.nodes l.left l.low l.number l.events (lines_of l.rest)
      ≡ events_from l.nodes l.fn.count 1 l.fn.first [] (lines_of l.fn.bytes);
  few : l.number + length l.rest ≤ l.fn.first + length l.fn.bytes;
}

abbrev pub decreases-loop-line : goal.decreases-loop-line
decreases-loop-line l = length l.rest
