use Rattle.std.proofs.Common.{◌≡◌, drop}
use Rattle.trace_check.specs.Cursors.{first_going_of}
use Rattle.trace_check.proofs.due.first_going.Given as goal

-- no process so far goes on
abbrev pub invariant-loop-pid : goal.invariant-loop-pid
invariant-loop-pid l =
    first_going_of l.script (drop l.pid-index l.cursors.entries) ≡ first_going_of l.script l.cursors.entries
