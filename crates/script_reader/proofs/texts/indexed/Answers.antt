use Rattle.std.proofs.Common.{◌-◌, length, take, drop, sym, ap, ◌∙◌}
use Rattle.std.specs.Prelude.{Some}
use Rattle.script_reader.proofs.OneDigit.{indexed_in, indexed_in_two}
use Rattle.script_reader.proofs.texts.indexed.Goals as goal

pub returns-in-len2-up : goal.returns-in-len2-up
returns-in-len2-up c =
    let w = c.args.word.now in
    ap (λ n. Some (n, take (length w - 2) (drop 2 w))) c.from.ensures
    ∙ indexed_in w c.in-len2-up.len_at_least (sym c.is_ascii_digit.ensures.value ∙ c.if-is_ascii_digit.true)
    c.if-colon-eq58.true

pub returns-in-len3-up : goal.returns-in-len3-up
returns-in-len3-up c =
    indexed_in_two c.args.word.now _ c.in-len3-up.len_at_least
    (sym c.are_two_digits.ensures ∙ c.if-are_two_digits.true) c.if-colon-eq58-2.true c.two_digits.ensures
