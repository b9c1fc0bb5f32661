use Rattle.std.proofs.Common.{refl}
use Rattle.script_reader.proofs.Cuts.{none_left, next_word_at}
use Rattle.script_reader.proofs.words.marked_word.Goals as goal

pub returns-in-None-clause-words : goal.returns-in-None-clause-words
returns-in-None-clause-words c = none_left c.args.line.now c.args.from (c.in-None.ensures.none refl)

pub returns-in-Some-clause-words : goal.returns-in-Some-clause-words
returns-in-Some-clause-words c =
    next_word_at c.args.line.now c.args.from c.in-Some.start c.marked_end-end.result.0 c.in-Some.ensures.some
    c.in-Some.ensures.within c.marked_end-end.ensures.value
