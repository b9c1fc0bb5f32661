use Rattle.std.proofs.Common.{◌≡◌, List, map, Ok, sym, subst}
use Rattle.std.specs.List.{All}
use Rattle.std.proofs.lemmas.Result.{IfOk-weaker}
use Rattle.kernel_model.specs.Script.{IsSoundScript}
use Rattle.pico_run.specs.declared.rested.Rested.{Rested}
use Rattle.boxes_run.specs.declared.job.Job.{Job}
use Rattle.boxes_run.specs.Runs.{AreRested, scripts_of}
use Rattle.boxes_run.proofs.JobLists.{jobs-are-sound}
use Rattle.boxes_run.proofs.Outcomes.{all-are-rested}
use Rattle.boxes_run.proofs.running.run_all.Goals as goal

pub run_each-requires-after_bounds : goal.run_each-requires-after_bounds
run_each-requires-after_bounds g c κs within =
    subst (λ (js : List Job). All (λ (j : Job). IsSoundScript j.script) js) (sym c.in_ok-jobs.ensures)
    (jobs-are-sound 0 c.args.boxes c.requires.sound)

pub returns : goal.returns
returns g c =
    IfOk-weaker c.all_of.result (λ (list : List Rested). map Ok list ≡ c.in_ok-outcomes.outcomes.items)
    (AreRested (scripts_of c.args.boxes))
    (λ list all. all-are-rested c.args.boxes c.in_ok-jobs.jobs.items c.in_ok-outcomes.outcomes.items list
    c.in_ok-jobs.ensures c.in_ok-outcomes.ensures all)
    c.all_of.ensures
