use Rattle.std.proofs.Common.{List, subst}
use Rattle.index_links.specs.Chains.{HaveOwnSlots}
use Rattle.index_links.specs.Nodes.{Node}
use Rattle.index_links.proofs.Seen.{seen}
use Rattle.index_links.proofs.links.Links.have_own_slots.Goals as goal

pub returns : goal.returns
returns g c =
    subst (λ (ns : List (Node g.row.T.Denot)). HaveOwnSlots ns) (seen _ _ _ _ _ _ c.self.invariant c.self.view_is)
    c.self.invariant.kept.own
