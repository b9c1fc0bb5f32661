use Rattle.std.proofs.Common.{◌≡◌, ◌+◌, ◌≤◌, length}
use Rattle.script_reader.specs.Words.{lines_of}
use Rattle.script_reader.specs.Fault.{start}
use Rattle.mq_model.specs.Reading.{mq_blocks_from}
use Rattle.posix_mq.proofs.read.blocks_with.Given as goal

-- the lines left, read from here, give what all lines give
abbrev pub invariant-loop-bytes : goal.invariant-loop-bytes
invariant-loop-bytes l =
    record {
      reads : mq_blocks_from l.names l.place l.number (lines_of l.rest)
          ≡ mq_blocks_from l.fn.names (start (length l.fn.names)) 1 (lines_of l.fn.text);
      counted : l.number + length l.rest ≤ length l.fn.text + 1;
      blocks : length l.place.blocks + 1 ≤ l.number;
      calls : l.place.calls ≤ 20000;
    }

abbrev pub decreases-loop-bytes : goal.decreases-loop-bytes
decreases-loop-bytes l = length l.rest
