use Rattle.std.proofs.Common.{List, length, ◌∙◌, ap}
use Rattle.index_links.specs.Nodes.{Node}
use Rattle.index_links.proofs.Seen.{seen}
use Rattle.index_links.proofs.links.Links.len.Goals as goal

pub returns : goal.returns
returns g c =
    c.self.invariant.count
    ∙ ap (λ (ns : List (Node g.row.T.Denot)). length ns) (seen _ _ _ _ _ _ c.self.invariant c.self.view_is)
