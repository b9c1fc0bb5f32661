use Rattle.std.proofs.Common.{◌≡◌, ◌+◌, ◌*◌, sym, ap, ◌∙◌, arith}
use Rattle.text_fields.specs.Fields.{digits_front}
use Rattle.text_fields.proofs.Numerals.{front-more, front-past, front-stop, front-left}
use Rattle.text_fields.proofs.numbers.digits.Goals as goal

pub returns-then-more-from-clause-value : goal.returns-then-more-from-clause-value
returns-then-more-from-clause-value c =
    sym (front-past c.args.limit c.loop-next.value c.in-Some.next c.loop-next.rest.now c.in-Some.after.now
    c.in-Some.ensures.value (omega arith)) ∙ c.loop-next.invariant.0

pub loop-next-smaller : goal.loop-next-smaller
loop-next-smaller c = front-left c.in-Some.next c.loop-next.rest.now c.in-Some.after.now c.in-Some.ensures.value

pub loop-next-preserved : goal.loop-next-preserved
loop-next-preserved c =
    let same : c.loop-next.value * 10 + c.in-Some.next ≡ c.from.result * 10 + c.from-in-Some.result = omega arith in
    let further = front-more c.args.limit c.loop-next.value c.in-Some.next c.loop-next.rest.now c.in-Some.after.now
    c.in-Some.ensures.value (omega arith) in (
      ap (λ v. digits_front c.args.limit v c.in-Some.after.now) (sym same) ∙ sym further ∙ c.loop-next.invariant.0,
      omega arith,
    )

pub returns-clause-value : goal.returns-clause-value
returns-clause-value c =
    sym (front-stop c.args.limit c.loop-next.value c.loop-next.rest.now (sym c.in_default.ensures.value))
    ∙ c.loop-next.invariant.0
