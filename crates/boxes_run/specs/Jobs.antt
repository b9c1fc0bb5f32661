-- The runs of several sandboxes, one by one.
use Rattle.std.specs.Prelude.{ℕ, ◌+◌, List, [], ◌∷◌, length, Result, IfOk}
use Rattle.pico_base.specs.declared.fault.Memory.{Memory}
use Rattle.sandbox_set.specs.declared.read.Sandbox.{Sandbox}
use Rattle.pico_run.specs.declared.rested.Rested.{Rested}
use Rattle.pico_run.specs.Rested.{IsRested}
use Rattle.boxes_run.specs.declared.job.Job.{Job}

-- a job for each sandbox, where others before the first have so many nodes
abbrev pub jobs_from : ℕ → List Sandbox → List Job
jobs_from before [] = []
jobs_from before (b ∷ boxes) =
    record { script = b.script; before = before } ∷ jobs_from (before + length b.script.blocks) boxes

-- what runs of the jobs gave, in order
abbrev pub AreOutcomes : List Job → List (Result Rested Memory) → Type 0
AreOutcomes [] [] = Unit {0}
AreOutcomes [] (o ∷ outcomes) = ⊥
AreOutcomes (job ∷ jobs) [] = ⊥
AreOutcomes (job ∷ jobs) (o ∷ outcomes) = IfOk o (IsRested job.script) × AreOutcomes jobs outcomes
