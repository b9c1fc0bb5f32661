use Rattle.std.proofs.Common.{◌≡◌, true, false, not, is_none, is_some, ap, sym, ◌∙◌}
use Rattle.number_maps.specs.Maps.{get}
use Rattle.node_model.specs.Directory.{is_known, place_name}
use Rattle.node_model.specs.Kinds.{get_named, put_named}
use Rattle.lease_leader.specs.Places.{directory_by, spot_at}
use Rattle.lease_leader.proofs.Changes.{known, none-some, place-known, place-new}
use Rattle.lease_leader.proofs.Late.{AllAreLate-with, IsLate-spot_at}
use Rattle.lease_leader.proofs.Totals.{counted-new}
use Rattle.lease_leader.proofs.directory.Directory.place.Goals as goal

there : (c : goal.Then-has) → is_some (get_named c.self.inside.spots c.args.name) ≡ true
there c = sym c.has.ensures ∙ c.if-has.true

pub returns-then-has-clause-new_name : goal.returns-then-has-clause-new_name
returns-then-has-clause-new_name c =
    let d = c.self.inside in
    sym (ap not (ap (λ e. is_known e c.args.name) (sym c.self.view_is)
    ∙ known d.partings d.spots d.ranges c.args.name ∙ there c))

pub returns-then-has-clause-ok : goal.returns-then-has-clause-ok
returns-then-has-clause-ok c =
    let d = c.self.inside in
    sym c.self.view_is ∙ place-known d.partings d.spots d.ranges c.args.name c.args.node (there c)
    ∙ ap (λ e. place_name e c.args.name c.args.node) c.self.view_is

absent : (c : goal.In_ok-insert) → is_some (get_named c.self.inside.spots c.args.name) ≡ false
absent c = sym c.has.ensures ∙ c.if-has.false

-- the spots with the new one
put : (c : goal.In_ok-insert)
    → c.insert.new.self
    ≡ put_named c.self.inside.spots c.args.name
    (spot_at c.args.node (is_none (get c.self.inside.partings c.args.node)))
put c =
    c.in_ok-insert.ensures.ok
    ∙ ap (put_named c.self.inside.spots c.args.name) (c.at.ensures ∙ ap (spot_at c.args.node) c.stays-stays.ensures)

pub invariant_of-self-2 : goal.invariant_of-self-2
invariant_of-self-2 c =
    let d = c.self.inside in
    rw (put c) (
      AllAreLate-with d.partings d.spots c.args.name _ c.self.invariant.0 (IsLate-spot_at d.partings c.args.node),
      counted-new d.parcels d.parcels d.spots c.args.name c.in_ok-insert.ensures.rising c.self.invariant.1 c.args.node
          (is_none (get d.partings c.args.node)) (none-some _ (absent c)),
    )

pub returns-clause-new_name : goal.returns-clause-new_name
returns-clause-new_name c =
    let d = c.self.inside in
    sym (ap not (ap (λ e. is_known e c.args.name) (sym c.self.view_is)
    ∙ known d.partings d.spots d.ranges c.args.name ∙ absent c))

pub returns-clause-ok : goal.returns-clause-ok
returns-clause-ok c =
    let d = c.self.inside in
    ap (λ m. directory_by d.partings m d.ranges) (put c)
    ∙ place-new d.partings d.spots d.ranges c.args.name c.args.node (absent c)
    ∙ ap (λ e. place_name e c.args.name c.args.node) c.self.view_is
