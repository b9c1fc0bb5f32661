use Rattle.std.proofs.Common.{sym, ◌∙◌}
use Rattle.script_reader.proofs.OneDigit.{step_of_three, step_of_five, turned}
use Rattle.script_reader.proofs.texts.step.Goals as goal

pub returns-in-len3 : goal.returns-in-len3
returns-in-len3 c =
    rw (c.from.ensures, c.from-in-len3.ensures)
    (sym (step_of_three c.args.word.now c.in-len3.len_at_least c.in-len3.len_below
    (sym c.is_ascii_digit.ensures.value ∙ c.if-is_ascii_digit.true) c.if-colon-eq58.true
    (sym c.is_ascii_digit-then-colon-eq58.ensures.value ∙ c.if-is_ascii_digit-2.true)))

pub returns-in-len5-up : goal.returns-in-len5-up
returns-in-len5-up c =
    rw (
      c.from-in-len5-up.ensures,
      c.from-in-len5-up-2.ensures,
      turned _ c.if-digit-ge49.true c.if-digit-le57.true,
    )
    (sym (step_of_five c.args.word.now c.in-len5-up.len_at_least
    (sym c.is_ascii_digit-2.ensures.value ∙ c.if-is_ascii_digit-3.true) c.if-colon-eq58-2.true
    c.if-sign-eq45.true c.if-digit-ge49.true c.if-digit-le57.true c.if-behind-eq58.true
    (sym c.is_nowait.ensures ∙ c.if-is_nowait.true)))
