use Rattle.std.proofs.Common.{◌≡◌, ℕ, ◌+◌, ◌-◌, length, Some, None, sym, ◌∙◌, arith}
use Rattle.text_fields.proofs.Many.{many-goes, many-ends, many-full}
use Rattle.trace_text.specs.Reading.{wake_at}
use Rattle.trace_text.proofs.entries.wakes.Goals as goal

pub loop-preserved : goal.loop-preserved
loop-preserved c =
    let n : ℕ = length c.args.bytes.now - c.loop.counter in
    let fewer : n - 1 ≡ length c.args.bytes.now - (c.loop.counter + 1) = omega arith in
    let there : Some (c.in-Some.one, c.in-Some.after.now) ≡ wake_at c.loop.rest.now =
    rw c.in-Some.is at c.in_ok-one.ensures in
    let goes = many-goes wake_at c.loop.woken c.loop.rest.now c.in-Some.after.now c.in-Some.one n (omega arith) there in
    rw (c.in_ok-push.ensures.ok, ← fewer) (sym goes ∙ c.loop.invariant)

pub returns-in_default : goal.returns-in_default
returns-in_default c =
    let none : None ≡ wake_at c.loop.rest.now = rw c.in_default.is at c.in_ok-one.ensures in
    sym (many-ends wake_at c.loop.woken c.loop.rest.now (length c.args.bytes.now - c.loop.counter) (sym none))
    ∙ c.loop.invariant

pub returns : goal.returns
returns c =
    sym (many-full wake_at c.loop.woken c.loop.rest.now (length c.args.bytes.now - c.loop.counter) (omega arith))
    ∙ c.loop.invariant
