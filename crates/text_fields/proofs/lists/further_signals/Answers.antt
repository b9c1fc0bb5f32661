use Rattle.std.proofs.Common.{◌≡◌, ℕ, ◌+◌, ◌-◌, length, sym, ap, ◌∙◌, arith}
use Rattle.text_fields.specs.Fields.{behind_comma, signal_at, with_signals}
use Rattle.text_fields.proofs.Many.{many-step, many-none, many-zero}
use Rattle.text_fields.proofs.lists.further_signals.Goals as goal

pub loop-preserved : goal.loop-preserved
loop-preserved c =
    let n : ℕ = length c.args.bytes.now - c.loop.counter in
    let fewer : n - 1 ≡ length c.args.bytes.now - (c.loop.counter + 1) = omega arith in
    let step = many-step (behind_comma signal_at) c.loop.rest.now c.in-Some.after.now c.in-Some.sig n
    (omega arith) c.in-Some.ensures in
    rw (c.with-set-in-loop.ensures, ← fewer) (sym (ap (with_signals c.loop.set) step) ∙ c.loop.invariant)

pub returns-in_default : goal.returns-in_default
returns-in_default c =
    sym (ap (with_signals c.loop.set)
    (many-none (behind_comma signal_at) c.loop.rest.now (length c.args.bytes.now - c.loop.counter)
    (sym c.in_default.ensures))) ∙ c.loop.invariant

pub returns : goal.returns
returns c =
    sym (ap (with_signals c.loop.set)
    (many-zero (behind_comma signal_at) c.loop.rest.now (length c.args.bytes.now - c.loop.counter) (omega arith)))
    ∙ c.loop.invariant
