use Rattle.std.proofs.Common.{◌≡◌, ◌∙◌, ℕ, List, [], Some, sym, ap, rules}
use Rattle.trace_text.proofs.ExpectedLaws.{number-ends, none-left}
use Rattle.trace_text.proofs.expected.is_number_end.Goals as goal

pub returns-then-found-number : goal.returns-then-found-number
returns-then-found-number c = λ empty.
    let left : c.in-Some-by_number.left.now ≡ [] =
    none-left c.in-Some-by_number.left.now (sym c.is_empty.ensures ∙ empty) in
    number-ends c.args.number c.in-Some.found c.in-Some-by_number.field-0-0 c.args.rest.now c.in-Some.behind.now
    (search rules) c.if-found-number.true (sym c.in-Some.ensures.value)
    (sym c.in-Some-by_number.ensures.value ∙ ap (λ (xs : List ℕ). Some (c.in-Some-by_number.field-0-0, xs)) left)
