use Rattle.std.proofs.Common.{List, ℕ, length, sym, ap, subst, arith}
use Rattle.world_core.specs.Counts.{AreSummed}
use Rattle.world_core.proofs.Busy.{summed-idle}
use Rattle.world_core.proofs.counts.Counts.push_idle.Goals as goal

pub invariant_of-self-2 : goal.invariant_of-self-2
invariant_of-self-2 c =
    subst (λ (l : List ℕ). AreSummed c.self.inside.all c.self.inside.busy l) (sym c.in_ok-push.ensures.items)
    (summed-idle c.self.inside.all c.self.inside.busy c.self.inside.by_node.items c.self.invariant
    (omega (arith, ap length c.self.view_is)))
