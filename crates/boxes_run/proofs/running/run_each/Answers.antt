use Rattle.std.proofs.Common.{sym, subst, ◌∙◌, slice_index_or}
use Rattle.std.specs.Prelude.{IfOk}
use Rattle.pico_run.specs.Rested.{IsRested}
use Rattle.boxes_run.specs.declared.job.Job.{Job}
use Rattle.boxes_run.proofs.Outcomes.{outcomes-by-place}
use Rattle.boxes_run.proofs.running.run_each.Goals as goal

pub returns : goal.returns
returns g c =
    let outcomes = c.in_ok-outcomes.outcomes in
    outcomes-by-place c.args.jobs.items outcomes.items
    (sym outcomes.ok.0 ∙ c.in_ok-outcomes.ensures.len ∙ c.args.jobs.ok.0)
    (λ k j o lt.
    let at = (c.in_ok-outcomes.ensures.each k o lt).1 in
    subst (λ (x : Job). IfOk (slice_index_or outcomes.items k o) (IsRested x.script)) (sym (at.job_is j)) at.call.met)
