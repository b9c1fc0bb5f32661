use Rattle.std.proofs.Common.{◌<◌, ◌∙◌, length, sym, arith}
use Rattle.script_reader.proofs.Cuts.{none_left, next_word_at}
use Rattle.script_reader.proofs.words.word_from.Goals as goal

pub returns-then-start-line-clause-words : goal.returns-then-start-line-clause-words
returns-then-start-line-clause-words c =
    none_left c.args.line.now c.args.from (sym c.solid_from-start.ensures.value ∙ c.if-start-line.true)

pub returns-else-start-line-clause-words : goal.returns-else-start-line-clause-words
returns-else-start-line-clause-words c =
    let start = c.solid_from-start in
    let inside : start.result < length c.args.line.now = omega (arith, start.ensures.within, c.if-start-line.false) in
    next_word_at c.args.line.now c.args.from start.result c.word_end.result start.ensures.value inside
    c.word_end.ensures.value
