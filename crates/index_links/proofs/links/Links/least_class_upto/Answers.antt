use Rattle.std.proofs.Common.{◌≡◌, ℕ, ℤ, Some, None, SFits, w32, true, false, sym, ap, subst, ◌∙◌, rules}
use Rattle.std.proofs.lemmas.Int.{to_z-of_z}
use Rattle.std.specs.Prelude.{int_le}
use Rattle.number_maps.specs.Maps.{Numbered}
use Rattle.index_links.specs.declared.places.Link.{Link}
use Rattle.index_links.specs.Chains.{first_filled}
use Rattle.index_links.specs.Keys.{class_of}
use Rattle.index_links.specs.Nodes.{least_upto}
use Rattle.index_links.proofs.AtHand.{least_kept, none_kept}
use Rattle.index_links.proofs.Seen.{seen}
use Rattle.index_links.proofs.links.Links.least_class_upto.Goals as goal

pub returns-in_err-first_filled : goal.returns-in_err-first_filled
returns-in_err-first_filled g c =
    let rows : Numbered Link = c.self.inside.kept.rows.entries in
    let nodes : c.self.invariant.nodes ≡ c.args.self.now.nodes = seen _ _ _ _ _ _ c.self.invariant c.self.view_is in
    let none : first_filled rows ≡ None =
    subst (λ (m : Numbered Link). first_filled m ≡ None) c.as_slice.ensures
    (sym c.first_filled.ensures ∙ c.in_err-first_filled.was) in
    c.from_residual.ensures
    ∙ (sym (none_kept _ rows _ _ c.self.invariant c.args.class none) ∙ ap (least_upto c.args.class) nodes)

pub returns-then-least-class : goal.returns-then-least-class
returns-then-least-class g c =
    let rows : Numbered Link = c.self.inside.kept.rows.entries in
    let nodes : c.self.invariant.nodes ≡ c.args.self.now.nodes = seen _ _ _ _ _ _ c.self.invariant c.self.view_is in
    let key : ℕ = c.in_ok-first_filled.field-0 in
    let least : ℤ = c.class_of-least.result in
    let first : first_filled rows ≡ Some key =
    subst (λ (m : Numbered Link). first_filled m ≡ Some key) c.as_slice.ensures
    (sym c.first_filled.ensures ∙ c.in_ok-first_filled.was) in
    let fits : SFits w32 least = search rules in
    let bound_fits : SFits w32 c.args.class = c.ranges.class in
    let test : int_le least c.args.class ≡ true = simp to_z-of_z at c.if-least-class.true in
    let tested : int_le (class_of key) c.args.class ≡ true =
    ap (λ (z : ℤ). int_le z c.args.class) (sym c.class_of-least.ensures) ∙ test in
    rw (to_z-of_z w32 least fits)
    (ap Some c.class_of-least.ensures
    ∙ (rw tested at (least_kept _ rows _ _ c.self.invariant c.args.class key first c.rise.ensures)
    ∙ ap (least_upto c.args.class) nodes))

pub returns-else-least-class : goal.returns-else-least-class
returns-else-least-class g c =
    let rows : Numbered Link = c.self.inside.kept.rows.entries in
    let nodes : c.self.invariant.nodes ≡ c.args.self.now.nodes = seen _ _ _ _ _ _ c.self.invariant c.self.view_is in
    let key : ℕ = c.in_ok-first_filled.field-0 in
    let least : ℤ = c.class_of-least.result in
    let first : first_filled rows ≡ Some key =
    subst (λ (m : Numbered Link). first_filled m ≡ Some key) c.as_slice.ensures
    (sym c.first_filled.ensures ∙ c.in_ok-first_filled.was) in
    let fits : SFits w32 least = search rules in
    let bound_fits : SFits w32 c.args.class = c.ranges.class in
    let test : int_le least c.args.class ≡ false = simp to_z-of_z at c.if-least-class.false in
    let tested : int_le (class_of key) c.args.class ≡ false =
    ap (λ (z : ℤ). int_le z c.args.class) (sym c.class_of-least.ensures) ∙ test in
    rw tested at (least_kept _ rows _ _ c.self.invariant c.args.class key first c.rise.ensures)
    ∙ ap (least_upto c.args.class) nodes
