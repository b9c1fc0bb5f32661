use Rattle.std.proofs.Common.{◌≡◌, take}
use Rattle.pico_run.proofs.merging.copy_log.Given as goal

-- so far
abbrev pub invariant-loop-logged : goal.invariant-loop-logged
invariant-loop-logged l = l.copy ≡ take l.logged-index l.log
