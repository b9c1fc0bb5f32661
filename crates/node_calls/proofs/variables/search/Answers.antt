use Rattle.std.proofs.Common.{◌<◌, ◌+◌, ◌-◌, ◌/◌, ℕ, ap, arith}
use Rattle.node_calls.specs.Place.{variable_at}
use Rattle.node_calls.proofs.VariableLemmas.{narrow-up, narrow-down, read-at}
use Rattle.node_calls.proofs.variables.search.Goals as goal

pub loop-low-preserved-then-there-variable-2 : goal.loop-low-preserved-then-there-variable-2
loop-low-preserved-then-there-variable-2 c =
    let middle = c.loop-low.low + (c.loop-low.high - c.loop-low.low) / 2
    in let below : middle < c.loop-low.high = omega (arith, c.loop-low-test.true)
    in let read = read-at c.args.values.now middle c.index-values-middle.result
    (omega (arith, c.loop-low.invariant.within)) c.index-values-middle.is
    in let same = ap (λ (e : ℕ × ℕ). e.0) c.index-values-middle.is
    in let small : variable_at c.args.values.now middle < c.args.variable =
    omega (arith, read, same, c.there.view_is, c.variable.view_is, c.if-there-variable-2.true)
    in narrow-up c.args.values.now c.requires c.args.variable c.loop-low.low c.loop-low.high middle c.loop-low.invariant
    (omega arith) below small

pub loop-low-preserved : goal.loop-low-preserved
loop-low-preserved c =
    let middle = c.loop-low.low + (c.loop-low.high - c.loop-low.low) / 2
    in let below : middle < c.loop-low.high = omega (arith, c.loop-low-test.true)
    in let read = read-at c.args.values.now middle c.index-values-middle.result
    (omega (arith, c.loop-low.invariant.within)) c.index-values-middle.is
    in let same = ap (λ (e : ℕ × ℕ). e.0) c.index-values-middle.is
    in let great : c.args.variable < variable_at c.args.values.now middle =
    omega (
      arith,
      read,
      same,
      c.there.view_is,
      c.variable.view_is,
      c.if-there-variable.false,
      c.if-there-variable-2.false,
    )
    in narrow-down c.args.values.now c.requires c.args.variable c.loop-low.low c.loop-low.high middle
    c.loop-low.invariant (omega arith) below great
