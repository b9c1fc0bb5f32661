use Rattle.std.proofs.Common.{subst}
use Rattle.number_maps.specs.Rising.{IsRising}
use Rattle.node_model.specs.Directory.{Directory}
use Rattle.lease_leader.proofs.Order.{places-by-rise}
use Rattle.lease_leader.proofs.directory.Directory.places_rise.Goals as goal

pub returns : goal.returns
returns c =
    subst (λ (d : Directory). IsRising d.places.processes) c.self.view_is
    (places-by-rise c.self.inside.partings c.self.inside.spots.processes c.rise.ensures)
