use Rattle.std.proofs.Common.{inl, inr, subst, sym}
use Rattle.script_reader.specs.Fault.{IsFirstFault, Reads}
use Rattle.pico_cmd.proofs.ScriptAnswers.{simulated_alone, simulated_ends, simulated_status, simulates}
use Rattle.pico_cmd.proofs.answer.answer_to.Goals as goal
use Rattle.pico_cmd.proofs.answer.answer_to.Goals.{In-Ok}

-- what was read is the bytes
reads : (c : In-Ok) → Reads c.args.bytes c.in-Ok.script
reads c = subst (λ bytes. Reads bytes c.in-Ok.script) c.as_slice.ensures c.in-Ok.ensures.ok

pub returns-in-Ok-clause-answer : goal.returns-in-Ok-clause-answer
returns-in-Ok-clause-answer c =
    simulates c.args.bytes c.in-Ok.script c.args.options (reads (goal.at.returns-in-Ok-clause-answer c).In-Ok)
    c.simulated.result c.simulated.ensures

pub returns-in-Ok-clause-alone : goal.returns-in-Ok-clause-alone
returns-in-Ok-clause-alone c =
    simulated_alone c.args.bytes c.in-Ok.script c.args.options (reads (goal.at.returns-in-Ok-clause-alone c).In-Ok)
    c.simulated.result c.simulated.ensures

pub returns-in-Ok-clause-status : goal.returns-in-Ok-clause-status
returns-in-Ok-clause-status c =
    simulated_status c.args.bytes c.in-Ok.script c.args.options (reads (goal.at.returns-in-Ok-clause-status c).In-Ok)
    c.simulated.result c.simulated.ensures

pub returns-in-Ok-clause-done : goal.returns-in-Ok-clause-done
returns-in-Ok-clause-done c script is =
    simulated_ends c.args.bytes c.in-Ok.script c.args.options (reads (goal.at.returns-in-Ok-clause-done c).In-Ok)
    c.simulated.result c.simulated.ensures

-- a text that is read has no fault
pub returns-in-Ok-clause-fault : goal.returns-in-Ok-clause-fault
returns-in-Ok-clause-fault c line fault first =
    let has = subst (λ bytes. IsFirstFault bytes line fault) (sym c.as_slice.ensures) first in
    elim (c.in-Ok.ensures.only_fault line fault has) [ inl e ↦ cc | inr e ↦ cc ]
