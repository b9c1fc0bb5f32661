use Rattle.std.proofs.Common.{◌≡◌, Some, ap, sym, ◌∙◌}
use Rattle.std.proofs.lemmas.Option.{MatchOption-at_some}
use Rattle.std.specs.Bool.{⊤}
use Rattle.node_model.specs.Directory.{hold, is_coming}
use Rattle.node_model.specs.Kinds.{get_named, put_named}
use Rattle.lease_leader.specs.Counting.{HaveCome, deeds_in}
use Rattle.lease_leader.specs.Places.{directory_by, with_item}
use Rattle.lease_leader.specs.declared.spot.Spot.{Spot}
use Rattle.lease_leader.proofs.Changes.{coming-there, holds, some-there}
use Rattle.lease_leader.proofs.Late.{AllAreLate-with, IsLate-with_item}
use Rattle.lease_leader.proofs.Tables.{on-ok}
use Rattle.lease_leader.proofs.Totals.{counted-held}
use Rattle.lease_leader.proofs.directory.Directory.hold.Goals as goal

pub hold-requires : goal.hold-requires
hold-requires c =
    let d = c.self.inside in
    coming-there d.partings d.spots d.ranges c.args.name (ap (λ e. is_coming e c.args.name) c.self.view_is ∙ c.requires)

-- the name's spot, and the spots with the item
spot : (c : goal.In-Ok) → (s : Spot) × (get_named c.self.inside.spots c.args.name ≡ Some s)
spot c =
    let d = c.self.inside in
    some-there (get_named d.spots c.args.name)
    (coming-there d.partings d.spots d.ranges c.args.name
    (ap (λ e. is_coming e c.args.name) c.self.view_is ∙ c.requires))

held : (c : goal.In-Ok)
    → c.hold.new.self ≡ put_named c.self.inside.spots c.args.name (with_item (spot c).0 c.args.item)
held c =
    MatchOption-at_some ⊤
    (λ s. c.hold.new.self ≡ put_named c.self.inside.spots c.args.name (with_item s c.args.item)) (spot c).0 (spot c).1
    c.in-Ok.ensures.ok

come : (c : goal.In-Ok) → HaveCome (deeds_in c.args.name c.args.item) c.self.inside.parcels c.add.new.self
come c =
    rw (← c.deeds_in.ensures) (on-ok c.add.result (sym c.is_err.ensures.value ∙ c.if-is_err.false) c.add.ensures.ok)

pub invariant_of-self-in-Ok : goal.invariant_of-self-in-Ok
invariant_of-self-in-Ok c =
    let d = c.self.inside in
    rw (held c) (
      AllAreLate-with d.partings d.spots c.args.name _ c.self.invariant.0
          (IsLate-with_item d.partings (spot c).0 c.args.item),
      counted-held d.parcels c.add.new.self d.spots c.args.name c.in-Ok.ensures.rising c.self.invariant.1 (spot c).0
          c.args.item (spot c).1 (come c),
    )

pub returns-in-Ok-clause-ok : goal.returns-in-Ok-clause-ok
returns-in-Ok-clause-ok c =
    let d = c.self.inside in
    ap (λ m. directory_by d.partings m d.ranges) (held c)
    ∙ holds d.partings d.spots d.ranges c.args.name c.args.item (spot c).0 (spot c).1
    (ap (λ e. is_coming e c.args.name) c.self.view_is ∙ c.requires)
    ∙ ap (λ e. hold e c.args.name c.args.item) c.self.view_is
