use Rattle.std.proofs.Common.{ℕ, List, sym, ap, subst}
use Rattle.index_links.specs.Chains.{walk}
use Rattle.index_links.specs.Nodes.{Listed, Node, IsThere}
use Rattle.index_links.proofs.links.Links.unlink.Goals as goal

pub cut-requires-clause-there : goal.cut-requires-clause-there
cut-requires-clause-there g c =
    subst (λ (i : ℕ). IsThere i
    (walk c.self.inside.kept.len c.self.inside.kept.places.items c.self.inside.kept.ends.next))
    (sym c.slot.view_is)
    (subst (λ (ns : List (Node g.row.T.Denot)). IsThere c.args.slot ns)
    (sym (ap (λ (l : Listed g.row.T.Denot). l.nodes) c.self.view_is)) c.requires)

pub returns : goal.returns
returns g c =
    rw (← c.self.view_is, ← c.slot.view_is)
    (record { value = c.cut.ensures.value; nodes = c.cut.ensures.nodes; spare = c.cut.ensures.room })
