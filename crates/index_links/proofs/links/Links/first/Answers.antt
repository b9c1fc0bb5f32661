use Rattle.std.proofs.Common.{◌≡◌, ℕ, ◌∙◌, ap}
use Rattle.index_links.specs.Nodes.{IsThere, first_slot}
use Rattle.index_links.proofs.AtHand.{first_kept}
use Rattle.index_links.proofs.Seen.{seen}
use Rattle.index_links.proofs.Splits.{first_there, if_given}
use Rattle.index_links.proofs.links.Links.first.Goals as goal

pub returns-clause-slot : goal.returns-clause-slot
returns-clause-slot g c =
    let nodes : c.self.invariant.nodes ≡ c.args.self.now.nodes = seen _ _ _ _ _ _ c.self.invariant c.self.view_is in
    c.slot_at.ensures ∙ (first_kept _ _ _ _ c.self.invariant ∙ ap first_slot nodes)

pub returns-clause-there : goal.returns-clause-there
returns-clause-there g c =
    let nodes : c.self.invariant.nodes ≡ c.args.self.now.nodes = seen _ _ _ _ _ _ c.self.invariant c.self.view_is in
    if_given _ (first_slot c.args.self.now.nodes) (λ (slot : ℕ). IsThere slot c.args.self.now.nodes)
    (c.slot_at.ensures ∙ (first_kept _ _ _ _ c.self.invariant ∙ ap first_slot nodes))
    (λ s is. first_there c.args.self.now.nodes s is)
