use Rattle.std.proofs.Common.{◌≡◌, ◌<◌, ◌≤◌, ℕ, List, length, Some, sym, ap, subst, ◌∙◌, arith}
use Rattle.std.specs.List.{slice_get}
use Rattle.index_links.specs.declared.places.Place.{Place}
use Rattle.index_links.specs.Chains.{nowhere}
use Rattle.index_links.proofs.AtHand.{within_kept}
use Rattle.index_links.proofs.Splits.{Split}
use Rattle.index_links.proofs.Steps.{beside, beside_alike, is_cut, key_at, row_there, shrunk, some_nodes, split_of, within_alike, within_arrival}
use Rattle.index_links.proofs.kept.cut_at.Goals as goal

pub take_out-place-requires : goal.take_out-place-requires
take_out-place-requires g c =
    within_kept c.args.places.now c.args.rows.now.entries c.args.ends.now c.args.len c.requires.kept c.args.at
    (split_of _ _ _ _ c.args.at c.requires.kept c.requires.there)

pub join-requires-clause-before : goal.join-requires-clause-before
join-requires-clause-before g c some =
    let places : List (Place g.row.T.Denot) = c.args.places.now in
    let s : Split c.args.at c.requires.kept.nodes = split_of _ _ _ _ c.args.at c.requires.kept c.requires.there in
    let q : Place g.row.T.Denot = c.take_out-place.result in
    let there : slice_get places s.node.slot ≡ Some q = ap (slice_get places) s.is ∙ c.take_out-place.ensures.taken in
    subst (λ (n : ℕ). q.arrival.back < n) (sym c.take_out-place.auto.places)
    (within_arrival places q.arrival.back (beside _ _ _ _ c.requires.kept c.args.at s q there).0 some)

pub join-requires-clause-after : goal.join-requires-clause-after
join-requires-clause-after g c some =
    let places : List (Place g.row.T.Denot) = c.args.places.now in
    let s : Split c.args.at c.requires.kept.nodes = split_of _ _ _ _ c.args.at c.requires.kept c.requires.there in
    let q : Place g.row.T.Denot = c.take_out-place.result in
    let there : slice_get places s.node.slot ≡ Some q = ap (slice_get places) s.is ∙ c.take_out-place.ensures.taken in
    subst (λ (n : ℕ). q.arrival.next < n) (sym c.take_out-place.auto.places)
    (within_arrival places q.arrival.next (beside _ _ _ _ c.requires.kept c.args.at s q there).1 some)

pub take_from_class-requires-clause-back : goal.take_from_class-requires-clause-back
take_from_class-requires-clause-back g c some =
    let places : List (Place g.row.T.Denot) = c.args.places.now in
    let s : Split c.args.at c.requires.kept.nodes = split_of _ _ _ _ c.args.at c.requires.kept c.requires.there in
    let q : Place g.row.T.Denot = c.take_out-place.result in
    let taken = c.take_out-place.ensures.taken in
    let there : slice_get places s.node.slot ≡ Some q = ap (slice_get places) s.is ∙ taken in
    let both = beside_alike _ _ _ _ c.requires.kept c.args.at s q there
    (key_at _ _ _ _ c.args.at c.requires.kept s q taken) in
    subst (λ (n : ℕ). q.alike.back < n) (sym (c.join.auto.places ∙ c.take_out-place.auto.places))
    (within_alike places q.alike.back both.0 some)

pub take_from_class-requires-clause-next : goal.take_from_class-requires-clause-next
take_from_class-requires-clause-next g c some =
    let places : List (Place g.row.T.Denot) = c.args.places.now in
    let s : Split c.args.at c.requires.kept.nodes = split_of _ _ _ _ c.args.at c.requires.kept c.requires.there in
    let q : Place g.row.T.Denot = c.take_out-place.result in
    let taken = c.take_out-place.ensures.taken in
    let there : slice_get places s.node.slot ≡ Some q = ap (slice_get places) s.is ∙ taken in
    let both = beside_alike _ _ _ _ c.requires.kept c.args.at s q there
    (key_at _ _ _ _ c.args.at c.requires.kept s q taken) in
    subst (λ (n : ℕ). q.alike.next < n) (sym (c.join.auto.places ∙ c.take_out-place.auto.places))
    (within_alike places q.alike.next both.1 some)

pub take_from_class-requires-clause-there : goal.take_from_class-requires-clause-there
take_from_class-requires-clause-there g c =
    let s : Split c.args.at c.requires.kept.nodes = split_of _ _ _ _ c.args.at c.requires.kept c.requires.there in
    let q : Place g.row.T.Denot = c.take_out-place.result in
    row_there _ _ _ _ c.requires.kept c.args.at s q.key
    (key_at _ _ _ _ c.args.at c.requires.kept s q c.take_out-place.ensures.taken)

pub returns-clause-shrunk : goal.returns-clause-shrunk
returns-clause-shrunk g c =
    let q : Place g.row.T.Denot = c.take_out-place.result in
    let few : length c.args.places.now ≤ nowhere = c.requires.kept.kept.few in
    let lens : length c.take_from_class.new.places ≡ length c.args.places.now =
    c.take_from_class.auto.places ∙ (c.join.auto.places ∙ c.take_out-place.auto.places) in
    shrunk c.args.places.now c.take_out-place.new.places c.take_from_class.new.places c.args.rows.now.entries
    c.take_from_class.new.rows.entries c.args.ends.now c.join.new.ends c.args.len c.args.at q c.requires.kept
    c.requires.there
    (is_cut c.args.places.now c.take_out-place.new.places c.join.new.places c.take_from_class.new.places
    c.args.rows.now.entries c.take_from_class.new.rows.entries c.args.ends.now c.join.new.ends c.args.at q
    c.take_out-place.ensures.taken c.take_out-place.ensures.others c.join.ensures.places
    c.take_from_class.ensures.places
    c.join.ensures.ends c.take_from_class.ensures.rows (omega arith))

pub returns-clause-some : goal.returns-clause-some
returns-clause-some g c =
    some_nodes _ _ _ _ c.args.at c.requires.kept (split_of _ _ _ _ c.args.at c.requires.kept c.requires.there)
