use Rattle.std.proofs.Common.{◌≡◌, take}
use Rattle.pico_run.specs.Resting.{logs_in}
use Rattle.pico_run.proofs.merging.merge_logs.Given as goal

-- so far
abbrev pub invariant-loop-parting : goal.invariant-loop-parting
invariant-loop-parting l = l.logs ≡ logs_in (take l.parting-index l.partings)
