use Rattle.std.proofs.Common.{◌≡◌, ℕ, List, [], Option, ap, refl, ◌∙◌}
use Rattle.pico_base.specs.declared.numbers.Name.{Name}
use Rattle.node_model.specs.declared.held.Held.{Held}
use Rattle.node_model.specs.Directory.{Coming, recall}
use Rattle.node_model.specs.Kinds.{Named, put_named}
use Rattle.lease_leader.specs.Places.{directory_by, is_at}
use Rattle.lease_leader.specs.declared.spot.Spot.{Spot}
use Rattle.lease_leader.specs.declared.spot.Spot.TheVariants as spots
use Rattle.lease_leader.proofs.Changes.{at-spot, at-there, with-spot}
use Rattle.lease_leader.proofs.Late.{AllAreLate-with}
use Rattle.lease_leader.proofs.Totals.{counted-same}
use Rattle.lease_leader.proofs.directory.Directory.recall.Goals as goal

pub replace-requires : goal.replace-requires
replace-requires c =
    let d = c.self.inside in
    at-there d.partings d.spots d.ranges c.args.name (ap (λ e. is_at e c.args.name) c.self.view_is ∙ c.requires)

-- the spots with the new one
put : (kept kept' : Named Spot) (name : Name) (to : Option ℕ) (held : List Held)
    → kept' ≡ put_named kept name (spots.Coming to held) → held ≡ [] → kept' ≡ put_named kept name (spots.Coming to [])
put kept kept' name to held is none =
    is ∙ ap (λ (items : List Held). put_named kept name (spots.Coming to items)) none

pub invariant_of-self : goal.invariant_of-self
invariant_of-self c =
    let d = c.self.inside in
    let at = at-spot d.partings d.spots d.ranges c.args.name c.replace.result c.replace.ensures.was
    (ap (λ e. is_at e c.args.name) c.self.view_is ∙ c.requires) in
    rw (put d.spots c.replace.new.self c.args.name c.args.to _ c.replace.ensures.spots c.new-held.ensures) (
      AllAreLate-with d.partings d.spots c.args.name _ c.self.invariant.0 tt,
      counted-same d.parcels d.parcels d.spots c.args.name c.replace.ensures.rising c.self.invariant.1 c.replace.result
          (spots.Coming c.args.to []) c.replace.ensures.was at refl,
    )

pub returns : goal.returns
returns c =
    let d = c.self.inside in
    ap (λ m. directory_by d.partings m d.ranges)
    (put d.spots c.replace.new.self c.args.name c.args.to _ c.replace.ensures.spots c.new-held.ensures)
    ∙ with-spot d.partings d.spots d.ranges c.args.name (spots.Coming c.args.to []) (Coming c.args.to []) refl
    ∙ ap (λ e. recall e c.args.name c.args.to) c.self.view_is
