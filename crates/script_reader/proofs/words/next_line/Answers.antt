use Rattle.std.proofs.Common.{◌∙◌, length, sym, arith}
use Rattle.std.proofs.lemmas.List.{take_rest, drop_all}
use Rattle.script_reader.proofs.Lines.{lines_of-at, lines_of-none, some_from_not_empty}
use Rattle.script_reader.proofs.words.next_line.Goals as goal

pub returns-in-Some-clause-lines : goal.returns-in-Some-clause-lines
returns-in-Some-clause-lines c =
    let xs = c.args.bytes.now in
    let i = c.in-Some.at in
    rw take_rest (lines_of-at xs i (sym c.in-Some.ensures))

pub returns-in-None-2-clause-lines : goal.returns-in-None-2-clause-lines
returns-in-None-2-clause-lines c =
    let xs = c.args.bytes.now in
    rw (take_rest xs (length xs), drop_all (length xs) xs (omega arith))
    (lines_of-none xs (sym c.in-None-2.ensures)
    (some_from_not_empty (length xs) (sym c.is_empty.ensures ∙ c.if-is_empty.false)))
