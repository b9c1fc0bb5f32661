use Rattle.std.proofs.Common.{◌≡◌, Ok, Err}
use Rattle.std.specs.Prelude.{IfOk}
use Rattle.std.proofs.lemmas.Result.{IfOk-weaker}
use Rattle.pico_cmd.specs.declared.answer.Answer.{Answer}
use Rattle.pico_cmd.specs.declared.status.Status.{Status}
use Rattle.pico_cmd.specs.Promise.{Judges, JudgesTrace}
use Rattle.script_reader.specs.declared.fault.ScriptStop.TheVariants.{At}
use Rattle.check_input.specs.Parts.{checked_script}
use Rattle.pico_cmd.proofs.Verdicts.{gives_checked, judges_bytes, causes_read, causes_fault}
use Rattle.pico_cmd.proofs.judged.answer_to_check.Goals as goal

pub returns-in-Ok-clause-answer : goal.returns-in-Ok-clause-answer
returns-in-Ok-clause-answer c =
    let p = c.of-parts.result in
    let e = c.of-parts.ensures in
    let reads : checked_script c.args.bytes.now ≡ Ok c.in-Ok.script =
    gives_checked c.args.bytes.now p.script.now p.marker p.first_line (Ok c.in-Ok.script) e.script e.marker e.first_line
    c.in-Ok.ensures.gives in
    IfOk-weaker c.answer_to_trace.result
    (λ (a : Answer). JudgesTrace c.in-Ok.script p.trace.now p.first_line a.status a.text)
    (λ (a : Answer). Judges c.args.bytes.now a.status a.text)
    (λ a h. judges_bytes c.args.bytes.now c.in-Ok.script p.trace.now p.first_line reads e.trace e.first_line
    a.status a.text h)
    c.answer_to_trace.ensures.answer

pub returns-in-Ok-clause-causes : goal.returns-in-Ok-clause-causes
returns-in-Ok-clause-causes c =
    let p = c.of-parts.result in
    let e = c.of-parts.ensures in
    let reads : checked_script c.args.bytes.now ≡ Ok c.in-Ok.script =
    gives_checked c.args.bytes.now p.script.now p.marker p.first_line (Ok c.in-Ok.script) e.script e.marker e.first_line
    c.in-Ok.ensures.gives in
    causes_read c.args.bytes.now c.in-Ok.script p.trace.now p.first_line reads e.trace e.first_line
    (λ (s : Status). IfOk c.answer_to_trace.result (λ (a : Answer). a.status ≡ s))
    c.answer_to_trace.ensures.legal c.answer_to_trace.ensures.refused

pub returns-in_ok-text_of_fault-in-Err-At-clause-answer : goal.returns-in_ok-text_of_fault-in-Err-At-clause-answer
returns-in_ok-text_of_fault-in-Err-At-clause-answer c =
    let p = c.of-parts.result in
    let e = c.of-parts.ensures in
    let read : checked_script c.args.bytes.now ≡ Err (At c.in-Err-At.line c.in-Err-At.fault) =
    gives_checked c.args.bytes.now p.script.now p.marker p.first_line
    (Err (At c.in-Err-At.line c.in-Err-At.fault)) e.script e.marker e.first_line
    (rw c.in-Err-At.field-0-is at c.in-Err-At.ensures.gives) in
    record {
      line = c.in-Err-At.line;
      fault = c.in-Err-At.fault;
      first = read;
      is_text = rw c.in-Err-At.field-0-is at c.in_ok-text_of_fault-in-Err-At.ensures;
    }

pub returns-in_ok-text_of_fault-in-Err-At-clause-causes : goal.returns-in_ok-text_of_fault-in-Err-At-clause-causes
returns-in_ok-text_of_fault-in-Err-At-clause-causes c =
    let p = c.of-parts.result in
    let e = c.of-parts.ensures in
    causes_fault c.args.bytes.now c.in-Err-At.line c.in-Err-At.fault
    (gives_checked c.args.bytes.now p.script.now p.marker p.first_line (Err (At c.in-Err-At.line c.in-Err-At.fault))
    e.script e.marker e.first_line (rw c.in-Err-At.field-0-is at c.in-Err-At.ensures.gives))
