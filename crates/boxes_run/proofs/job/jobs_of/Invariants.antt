use Rattle.std.specs.Vec.Iter.{into_iter_items}
use Rattle.boxes_run.proofs.JobLists.{AreMade}
use Rattle.boxes_run.proofs.job.jobs_of.Given as goal

-- some jobs are made
abbrev pub invariant-loop-sandbox : goal.invariant-loop-sandbox
invariant-loop-sandbox l = AreMade l.fn.boxes l.jobs.items l.before (into_iter_items l.sandbox-iterator)
