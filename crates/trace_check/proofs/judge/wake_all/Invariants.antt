use Rattle.std.proofs.Common.{◌≡◌, drop}
use Rattle.std.specs.Prelude.{fold}
use Rattle.trace_check.specs.Cursors.{AreSteady, after_woken}
use Rattle.trace_check.proofs.judge.wake_all.Given as goal

-- those so far, and then those who are left
abbrev pub invariant-loop-pid : goal.invariant-loop-pid
invariant-loop-pid l = record {
  so_far : fold (after_woken l.script) l.cursors.entries (drop l.pid-index l.woken)
      ≡ fold (after_woken l.script) l.fn.cursors.entries l.woken;
  steady : AreSteady l.script l.cursors.entries;
}
