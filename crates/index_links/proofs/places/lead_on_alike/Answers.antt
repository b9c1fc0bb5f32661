use Rattle.std.proofs.Common.{◌≤◌, ◌<◌, ℕ, List, length, get_or, ap, arith}
use Rattle.index_links.specs.declared.places.Link.{Link}
use Rattle.index_links.specs.declared.places.Place.{Place}
use Rattle.index_links.specs.Chains.{relinked, stays, on}
use Rattle.index_links.proofs.Placed.{changed_at, changed_nowhere, on_same, on_other}
use Rattle.index_links.proofs.places.lead_on_alike.Goals as goal

-- a place with this link
abbrev with_link : {V : Type 0} → Place V → Link → Place V
with_link q l = record { arrival = q.arrival; alike = l; key = q.key; value = q.value }

pub returns-then-at-eq-NOWHERE-clause-places : goal.returns-then-at-eq-NOWHERE-clause-places
returns-then-at-eq-NOWHERE-clause-places g c =
    let places : List (Place g.row.T.Denot) = c.args.places.now in
    let at : ℕ = c.args.at in
    let past : length places ≤ at = omega arith in
    record {
      each = changed_nowhere (relinked stays (on at c.args.next)) places at past
          (λ i q ne. ap (with_link q) (on_other at c.args.next i q.alike ne));
    }

pub returns-else-at-eq-NOWHERE-clause-places : goal.returns-else-at-eq-NOWHERE-clause-places
returns-else-at-eq-NOWHERE-clause-places g c =
    let places : List (Place g.row.T.Denot) = c.args.places.now in
    let at : ℕ = c.args.at in
    let d : Place g.row.T.Denot = c.index-places-at.result in
    let q : Place g.row.T.Denot = get_or places at d in
    let within : at < length places = c.requires.at c.if-at-eq-NOWHERE.false in
    record {
      each = changed_at (relinked stays (on at c.args.next)) places at d _ within
          (ap (with_link q) (on_same at c.args.next q.alike))
          (λ i q ne. ap (with_link q) (on_other at c.args.next i q.alike ne));
    }
