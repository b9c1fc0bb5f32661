use Rattle.std.proofs.Common.{◌≡◌, ◌+◌, ◌-◌, ◌*◌, ◌/◌, ◌<◌, ◌≤◌, sym, ap, ◌∙◌, arith}
use Rattle.text_fields.specs.Fields.{digits_front}
use Rattle.text_fields.proofs.Numerals.{front-more, front-past, front-stop, front-left}
use Rattle.image_text.proofs.numbers.stamp_digits.Goals as goal

pub loop-next-smaller : goal.loop-next-smaller
loop-next-smaller c = front-left c.in-Some.next c.loop-next.rest.now c.in-Some.after.now c.in-Some.ensures.value

pub returns-clause-value : goal.returns-clause-value
returns-clause-value c =
    sym (front-stop 9223372036854775807 c.loop-next.value c.loop-next.rest.now (sym c.in_default.ensures.value))
    ∙ c.loop-next.invariant.0

pub returns-then-value-units-clause-value : goal.returns-then-value-units-clause-value
returns-then-value-units-clause-value c =
    let past : (9223372036854775807 - c.from-units.result) / 10 < c.loop-next.value = c.if-value-units.true in
    let same : c.from-units.result ≡ c.in-Some.next = c.from-units.ensures in
    sym (front-past 9223372036854775807 c.loop-next.value c.in-Some.next c.loop-next.rest.now c.in-Some.after.now
    c.in-Some.ensures.value (omega arith)) ∙ c.loop-next.invariant.0

pub loop-next-preserved : goal.loop-next-preserved
loop-next-preserved c =
    let fits : c.loop-next.value ≤ (9223372036854775807 - c.from-units.result) / 10 = c.if-value-units.false in
    let units : c.from-units.result ≡ c.in-Some.next = c.from-units.ensures in
    let small : c.in-Some.next ≤ 9 = c.in-Some.ensures.small in
    let same : c.loop-next.value * 10 + c.in-Some.next ≡ c.loop-next.value * 10 + c.from-units.result = omega arith in
    let further = front-more 9223372036854775807 c.loop-next.value c.in-Some.next c.loop-next.rest.now
    c.in-Some.after.now c.in-Some.ensures.value (omega arith) in (
      ap (λ v. digits_front 9223372036854775807 v c.in-Some.after.now) (sym same) ∙ sym further
          ∙ c.loop-next.invariant.0,
      omega arith,
    )
