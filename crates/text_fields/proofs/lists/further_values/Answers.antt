use Rattle.std.proofs.Common.{◌≡◌, ℕ, ◌+◌, ◌-◌, length, sym, ◌∙◌, arith}
use Rattle.text_fields.specs.Fields.{behind_comma, number_at}
use Rattle.text_fields.proofs.Many.{many-goes, many-ends, many-full}
use Rattle.text_fields.proofs.lists.further_values.Goals as goal

pub loop-preserved : goal.loop-preserved
loop-preserved c =
    let n : ℕ = length c.args.bytes.now - c.loop.counter in
    let fewer : n - 1 ≡ length c.args.bytes.now - (c.loop.counter + 1) = omega arith in
    let goes = many-goes (behind_comma (number_at c.args.limit)) c.loop.values c.loop.rest.now c.in-Some.after.now
    c.in-Some.value n (omega arith) c.in-Some.ensures in
    rw (c.in_ok-push-2.ensures.ok, ← fewer) (sym goes ∙ c.loop.invariant)

pub returns-in_default : goal.returns-in_default
returns-in_default c =
    sym (many-ends (behind_comma (number_at c.args.limit)) c.loop.values c.loop.rest.now
    (length c.args.bytes.now - c.loop.counter) (sym c.in_default.ensures)) ∙ c.loop.invariant

pub returns : goal.returns
returns c = sym (many-full (behind_comma (number_at c.args.limit)) c.loop.values c.loop.rest.now
    (length c.args.bytes.now - c.loop.counter) (omega arith)) ∙ c.loop.invariant
