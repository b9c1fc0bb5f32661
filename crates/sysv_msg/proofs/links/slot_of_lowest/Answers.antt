use Rattle.std.proofs.Common.{◌≡◌, ℤ, Option, Some, None, SFits, w32, sym, ap, ◌∙◌, rules}
use Rattle.std.proofs.lemmas.Int.{to_z-of_z}
use Rattle.index_links.specs.Nodes.{least_upto}
use Rattle.sysv_msg.specs.Linked.{slot_of_some}
use Rattle.sysv_msg.proofs.Selected.{slot-negative}
use Rattle.sysv_msg.proofs.links.slot_of_lowest.Goals as goal

pub returns-in_err-least : goal.returns-in_err-least
returns-in_err-least c =
    let range = c.ranges.class in
    let bound : SFits w32 c.bound_of.result = search rules in
    let none : least_upto c.bound_of.result c.args.links.now.nodes ≡ None =
    sym (simp to_z-of_z at c.least_class_upto.ensures) ∙ c.in_err-least.was in
    c.from_residual.ensures
    ∙ (ap (λ (o : Option ℤ). slot_of_some o c.args.links.now.nodes) (sym none)
    ∙ slot-negative c.args.class c.bound_of.result c.args.links.now.nodes c.requires.negative
    (simp to_z-of_z at c.bound_of.ensures) c.requires.fits)

pub returns : goal.returns
returns c =
    let range = c.ranges.class in
    let bound : SFits w32 c.bound_of.result = search rules in
    let least : SFits w32 c.in_ok-least.least = search rules in
    let some : least_upto c.bound_of.result c.args.links.now.nodes ≡ Some c.in_ok-least.least =
    sym (simp to_z-of_z at c.least_class_upto.ensures) ∙ c.in_ok-least.was in
    simp to_z-of_z at c.first_of.ensures.slot
    ∙ (ap (λ (o : Option ℤ). slot_of_some o c.args.links.now.nodes) (sym some)
    ∙ slot-negative c.args.class c.bound_of.result c.args.links.now.nodes c.requires.negative
    (simp to_z-of_z at c.bound_of.ensures) c.requires.fits)
