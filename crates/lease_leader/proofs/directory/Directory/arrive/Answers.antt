use Rattle.std.proofs.Common.{◌≡◌, is_none, ap, ◌∙◌}
use Rattle.number_maps.specs.Maps.{get}
use Rattle.node_model.specs.Directory.{arrive, held_for, is_coming}
use Rattle.node_model.specs.Kinds.{put_named}
use Rattle.lease_leader.specs.Counting.{AllHaveGone}
use Rattle.lease_leader.specs.Places.{directory_by, items_in, spot_at}
use Rattle.lease_leader.proofs.Changes.{comes-to, coming-there, held-items}
use Rattle.lease_leader.proofs.Late.{AllAreLate-with, IsLate-spot_at}
use Rattle.lease_leader.proofs.Totals.{counted-gone, counted-in}
use Rattle.lease_leader.proofs.directory.Directory.arrive.Goals as goal

pub replace-spot-requires : goal.replace-spot-requires
replace-spot-requires c =
    let d = c.self.inside in
    coming-there d.partings d.spots d.ranges c.args.name (ap (λ e. is_coming e c.args.name) c.self.view_is ∙ c.requires)

pub remove_all-requires : goal.remove_all-requires
remove_all-requires c =
    let d = c.self.inside in
    rw (c.as_slice.ensures, c.into_items-items.ensures)
    (counted-in d.parcels d.parcels d.spots c.args.name c.replace-spot.ensures.rising c.self.invariant.1
    c.replace-spot.result c.replace-spot.ensures.was)

-- the spots with the new one
put : (c : goal.After-remove_all)
    → c.replace-spot.new.self
    ≡ put_named c.self.inside.spots c.args.name
    (spot_at c.args.node (is_none (get c.self.inside.partings c.args.node)))
put c =
    c.replace-spot.ensures.spots
    ∙ ap (put_named c.self.inside.spots c.args.name) (c.at.ensures ∙ ap (spot_at c.args.node) c.stays-stays.ensures)

gone : (c : goal.After-remove_all)
    → AllHaveGone c.args.name (items_in c.replace-spot.result) c.self.inside.parcels c.remove_all.new.self
gone c = rw (← c.into_items-items.ensures, ← c.as_slice.ensures) c.remove_all.ensures

pub invariant_of-self : goal.invariant_of-self
invariant_of-self c =
    let d = c.self.inside in
    rw (put c) (
      AllAreLate-with d.partings d.spots c.args.name _ c.self.invariant.0 (IsLate-spot_at d.partings c.args.node),
      counted-gone d.parcels c.remove_all.new.self d.spots c.args.name c.replace-spot.ensures.rising c.self.invariant.1
          c.replace-spot.result c.args.node (is_none (get d.partings c.args.node)) c.replace-spot.ensures.was (gone c),
    )

pub returns-clause-held : goal.returns-clause-held
returns-clause-held c =
    let d = c.self.inside in
    c.into_items-items.ensures
    ∙ held-items d.partings d.spots d.ranges c.args.name c.replace-spot.result c.replace-spot.ensures.was
    ∙ ap (λ e. held_for e c.args.name) c.self.view_is

pub returns-clause-place : goal.returns-clause-place
returns-clause-place c =
    let d = c.self.inside in
    ap (λ m. directory_by d.partings m d.ranges) (put c)
    ∙ comes-to d.partings d.spots d.ranges c.args.name c.args.node
    ∙ ap (λ e. arrive e c.args.name c.args.node) c.self.view_is
