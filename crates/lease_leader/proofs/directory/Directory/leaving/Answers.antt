use Rattle.std.proofs.Common.{ap, ◌∙◌}
use Rattle.node_model.specs.Directory.{IsLeaving, stays, with_leaving}
use Rattle.lease_leader.specs.Places.{directory_by}
use Rattle.lease_leader.proofs.Changes.{leaves}
use Rattle.lease_leader.proofs.Late.{AllAreLate-put}
use Rattle.lease_leader.proofs.directory.Directory.leaving.Goals as goal

pub invariant_of-self : goal.invariant_of-self
invariant_of-self c = (
  rw c.note_leaving.ensures
      (AllAreLate-put c.self.inside.partings c.args.node IsLeaving c.self.inside.spots c.self.invariant.0),
  c.self.invariant.1,
)

pub returns : goal.returns
returns c =
    let d = c.self.inside in
    ap (λ ps. directory_by ps d.spots d.ranges) c.note_leaving.ensures
    ∙ leaves d.partings d.spots d.ranges c.args.node (ap (λ e. stays e c.args.node) c.self.view_is ∙ c.requires)
    c.self.invariant.0
    ∙ ap (λ e. with_leaving e c.args.node) c.self.view_is
