use Rattle.std.proofs.Common.{ap, sym, ◌∙◌, nat_lt}
use Rattle.node_model.specs.Directory.{is_in_parcel}
use Rattle.lease_leader.proofs.Totals.{is_held_in-count}
use Rattle.lease_leader.proofs.directory.Directory.in_parcel.Goals as goal

pub returns : goal.returns
returns c =
    c.has.ensures ∙ ap (nat_lt 0) (c.self.invariant.1 c.args.name)
    ∙ sym (is_held_in-count c.args.name c.self.inside.partings c.self.inside.spots.processes)
    ∙ ap (λ d. is_in_parcel d c.args.name) c.self.view_is
