use Rattle.std.proofs.Common.{ap, not, is_some, sym, ◌∙◌}
use Rattle.node_model.specs.Directory.{is_known, route}
use Rattle.lease_leader.proofs.Changes.{known, route-known}
use Rattle.lease_leader.proofs.directory.Directory.route.Goals as goal

pub route_by_maker-requires : goal.route_by_maker-requires
route_by_maker-requires c =
    let d = c.self.inside in
    ap not (ap (λ e. is_known e c.args.name) (sym c.self.view_is) ∙ known d.partings d.spots d.ranges c.args.name
    ∙ ap is_some (sym c.in-None.ensures))

pub returns-in-Some : goal.returns-in-Some
returns-in-Some c =
    let d = c.self.inside in
    c.route.ensures
    ∙ route-known d.partings d.spots d.ranges c.args.name c.in-Some.spot.now (sym c.in-Some.ensures)
    ∙ ap (λ e. route e c.args.name) c.self.view_is
