use Rattle.std.proofs.Common.{◌≡◌, ℕ, ◌∙◌, ap}
use Rattle.std.proofs.lemmas.Int.{to_z-of_z}
use Rattle.index_links.specs.declared.places.Link.{Link}
use Rattle.index_links.specs.Chains.{row_at, slot_or_none}
use Rattle.index_links.specs.Keys.{key_of}
use Rattle.index_links.specs.Nodes.{IsThere, first_slot_of}
use Rattle.index_links.proofs.AtHand.{first_of_kept}
use Rattle.index_links.proofs.Classes.{class_of-key_of}
use Rattle.index_links.proofs.Seen.{seen}
use Rattle.index_links.proofs.Splits.{first_of_there, if_given}
use Rattle.index_links.proofs.links.Links.first_of.Goals as goal

pub returns-clause-slot : goal.returns-clause-slot
returns-clause-slot g c =
    let nodes : c.self.invariant.nodes ≡ c.args.self.now.nodes = seen _ _ _ _ _ _ c.self.invariant c.self.view_is in
    let fits = c.ranges.class in
    let key : c.key_of.result ≡ key_of c.args.class = simp to_z-of_z at c.key_of.ensures in
    c.slot_at.ensures
    ∙ (ap (λ (l : Link). slot_or_none l.next) (c.row_of.ensures ∙ ap (row_at c.self.inside.kept.rows.entries) key)
    ∙ (first_of_kept _ _ _ _ c.self.invariant c.args.class (class_of-key_of c.args.class fits)
    ∙ ap (first_slot_of c.args.class) nodes))

pub returns-clause-there : goal.returns-clause-there
returns-clause-there g c =
    let nodes : c.self.invariant.nodes ≡ c.args.self.now.nodes = seen _ _ _ _ _ _ c.self.invariant c.self.view_is in
    let fits = c.ranges.class in
    let key : c.key_of.result ≡ key_of c.args.class = simp to_z-of_z at c.key_of.ensures in
    if_given _ (first_slot_of c.args.class c.args.self.now.nodes) (λ (slot : ℕ). IsThere slot c.args.self.now.nodes)
    (c.slot_at.ensures
    ∙ (ap (λ (l : Link). slot_or_none l.next) (c.row_of.ensures ∙ ap (row_at c.self.inside.kept.rows.entries) key)
    ∙ (first_of_kept _ _ _ _ c.self.invariant c.args.class (class_of-key_of c.args.class fits)
    ∙ ap (first_slot_of c.args.class) nodes)))
    (λ s is. first_of_there c.args.class c.args.self.now.nodes s is)
