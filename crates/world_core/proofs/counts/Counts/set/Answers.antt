use Rattle.std.proofs.Common.{◌+◌, ◌-◌, ◌*◌, ◌%◌, ◌^◌, ℕ, length, set, sym, ap, subst, ◌∙◌, arith, w32}
use Rattle.std.specs.Prelude.{bit_and, bit_or}
use Rattle.std.specs.Int.{bit_not}
use Rattle.std.proofs.lemmas.List.{get_or_read}
use Rattle.world_core.specs.Counts.{AreSummed}
use Rattle.world_core.proofs.Busy.{summed-busy, summed-free, sum-fits}
use Rattle.world_core.proofs.counts.Counts.set.Goals as goal

pub overflow_add-self : goal.overflow_add-self
overflow_add-self c =
    let fits = sum-fits c.self.inside.all c.self.inside.busy c.self.inside.by_node.items c.args.at c.from-2.result
    c.from.result c.self.invariant (omega (arith, c.from-2.ensures, c.requires.few)) in
    omega (arith, fits)

pub invariant_of-self : goal.invariant_of-self
invariant_of-self c =
    let kept = c.self.inside in
    let lt = ap length c.self.view_is in
    subst (λ (n : ℕ). AreSummed (kept.all - c.from.result + n) (bit_or kept.busy (1 * 2 ^ c.args.at % 2 ^ 32))
    (set kept.by_node.items c.args.at c.args.count)) (sym c.from-2.ensures)
    (summed-busy kept.all kept.busy kept.by_node.items c.args.at c.args.count c.from.result c.self.invariant
    (omega (arith, c.requires.there)) c.requires.few
    (c.from.ensures ∙ get_or_read kept.by_node.items c.args.at c.index-old.result.now (omega (arith, c.requires.there))
    c.index-old.ensures 0)
    c.if-count-gt0.true)

pub invariant_of-self-else-count-gt0 : goal.invariant_of-self-else-count-gt0
invariant_of-self-else-count-gt0 c =
    let kept = c.self.inside in
    let lt = ap length c.self.view_is in
    subst (λ (n : ℕ). AreSummed (kept.all - c.from.result + n)
    (bit_and kept.busy (bit_not w32 (1 * 2 ^ c.args.at % 2 ^ 32)))
    (set kept.by_node.items c.args.at c.args.count)) (sym c.from-2.ensures)
    (summed-free kept.all kept.busy kept.by_node.items c.args.at c.args.count c.from.result c.self.invariant
    (omega (arith, c.requires.there))
    (c.from.ensures ∙ get_or_read kept.by_node.items c.args.at c.index-old.result.now (omega (arith, c.requires.there))
    c.index-old.ensures 0)
    c.if-count-gt0.false)
