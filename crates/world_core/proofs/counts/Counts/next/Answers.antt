use Rattle.std.proofs.Common.{◌/◌, ◌^◌, ◌+◌, ℕ, List, Some, None, subst, arith, w32}
use Rattle.std.specs.Int.{trailing_zeros}
use Rattle.world_core.specs.Counts.{IsNext}
use Rattle.world_core.proofs.Busy.{next-past, next-none, next-some}
use Rattle.world_core.proofs.counts.Counts.next.Goals as goal

pub returns-then-from-ge32-clause-next : goal.returns-then-from-ge32-clause-next
returns-then-from-ge32-clause-next c =
    subst (λ (l : List ℕ). IsNext l c.args.from None) c.self.view_is
    (next-past c.self.inside.all c.self.inside.busy c.self.inside.by_node.items c.args.from c.self.invariant
    c.if-from-ge32.true)

pub returns-then-behind-eq0-clause-next : goal.returns-then-behind-eq0-clause-next
returns-then-behind-eq0-clause-next c =
    subst (λ (l : List ℕ). IsNext l c.args.from None) c.self.view_is
    (next-none c.self.inside.all c.self.inside.busy c.self.inside.by_node.items c.args.from c.self.invariant
    c.if-behind-eq0.true)

pub returns-clause-next : goal.returns-clause-next
returns-clause-next c =
    let at : ℕ = c.args.from + trailing_zeros w32 (c.self.inside.busy / 2 ^ c.args.from) in
    subst (λ (l : List ℕ). IsNext l c.args.from (Some at)) c.self.view_is
    (next-some c.self.inside.all c.self.inside.busy c.self.inside.by_node.items c.args.from c.self.invariant
    c.if-behind-eq0.false)

pub returns-clause-few : goal.returns-clause-few
returns-clause-few c =
    let next = next-some c.self.inside.all c.self.inside.busy c.self.inside.by_node.items c.args.from c.self.invariant
    c.if-behind-eq0.false in
    omega (arith, next.1, c.self.invariant.few)
