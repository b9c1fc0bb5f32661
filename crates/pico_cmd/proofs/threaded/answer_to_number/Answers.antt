use Rattle.pico_cmd.proofs.ScriptAnswers.{totals_done, totals_told}
use Rattle.pico_cmd.proofs.threaded.answer_to_number.Goals as goal

pub returns-clause-text : goal.returns-clause-text
returns-clause-text g c =
    totals_told _ _ _ c.of_totals.ensures.wanted _ c.run_told.result c.in_ok-script.ensures.script
    c.run_told.ensures.answer

pub returns-clause-left : goal.returns-clause-left
returns-clause-left g c = c.run_told.ensures.never_waits c.in_ok-script.ensures.waits

pub returns-clause-status : goal.returns-clause-status
returns-clause-status g c =
    totals_done _ _ _ c.of_totals.ensures.wanted c.run_told.result c.run_told.ensures.answer
    (c.run_told.ensures.never_waits c.in_ok-script.ensures.waits)
