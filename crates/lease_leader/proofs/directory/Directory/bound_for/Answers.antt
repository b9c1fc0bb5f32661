use Rattle.std.proofs.Common.{ap, sym, ◌∙◌}
use Rattle.node_model.specs.Directory.{bound_for}
use Rattle.lease_leader.proofs.Changes.{bound-none, bound-spot}
use Rattle.lease_leader.proofs.directory.Directory.bound_for.Goals as goal

pub returns-in-Some : goal.returns-in-Some
returns-in-Some c =
    let d = c.self.inside in
    c.destination.ensures
    ∙ bound-spot d.partings d.spots d.ranges c.args.name c.in-Some.spot.now (sym c.in-Some.ensures)
    ∙ ap (λ e. bound_for e c.args.name) c.self.view_is

pub returns-in-None : goal.returns-in-None
returns-in-None c =
    let d = c.self.inside in
    bound-none d.partings d.spots d.ranges c.args.name (sym c.in-None.ensures)
    ∙ ap (λ e. bound_for e c.args.name) c.self.view_is
