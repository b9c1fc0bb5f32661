use Rattle.std.proofs.lemmas.List.{take_rest}
use Rattle.script_reader.proofs.Lines.{lines_of-at}
use Rattle.script_reader.proofs.words.marked_line.Goals as goal

pub returns-in-Some-clause-lines : goal.returns-in-Some-clause-lines
returns-in-Some-clause-lines c =
    let xs = c.args.text.now in
    let i = c.in-Some.at in
    rw take_rest (lines_of-at xs i c.in-Some.ensures.value)

pub returns-in-Some-near_line_end-clause-lines : goal.returns-in-Some-near_line_end-clause-lines
returns-in-Some-near_line_end-clause-lines c =
    let xs = c.args.text.now in
    let i = c.in-Some-near_line_end.at in
    rw take_rest (lines_of-at xs i c.in-Some-near_line_end.ensures.value)

pub returns-in-Some-second_line_end-clause-lines : goal.returns-in-Some-second_line_end-clause-lines
returns-in-Some-second_line_end-clause-lines c =
    let xs = c.args.text.now in
    let i = c.in-Some-second_line_end.at in
    rw take_rest (lines_of-at xs i c.in-Some-second_line_end.ensures.value)
