use Rattle.std.proofs.Common.{subst}
use Rattle.script_reader.specs.Fault.{Reads}
use Rattle.pico_cmd.proofs.ScriptAnswers.{runs_threads, threads_end}
use Rattle.pico_cmd.proofs.threaded.answer_to_run.Given.{Over}
use Rattle.pico_cmd.proofs.threaded.answer_to_run.Goals as goal
use Rattle.pico_cmd.proofs.threaded.answer_to_run.Goals.{In-Ok}

-- what was read is the bytes
reads : (g : Over) (c : In-Ok g) → Reads c.args.bytes c.in-Ok.script
reads g c = subst (λ bytes. Reads bytes c.in-Ok.script) c.as_slice.ensures c.in-Ok.ensures.ok

pub returns-in-Ok-clause-answer : goal.returns-in-Ok-clause-answer
returns-in-Ok-clause-answer g c =
    runs_threads c.args.bytes c.in-Ok.script c.args.steps (reads g (goal.at.returns-in-Ok-clause-answer g c).In-Ok) _
    c.run_told.result c.of_lines.ensures.wanted c.run_told.ensures.answer

pub returns-in-Ok-clause-done : goal.returns-in-Ok-clause-done
returns-in-Ok-clause-done g c script is =
    threads_end c.args.bytes c.in-Ok.script c.args.steps (reads g (goal.at.returns-in-Ok-clause-done g c).In-Ok) _
    c.run_told.result c.run_told.ensures.answer
