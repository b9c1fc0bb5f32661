use Rattle.std.proofs.Common.{◌≡◌, ◌≤◌, List, length, vec_capacity, sym, ap, subst, ◌∙◌, arith}
use Rattle.index_links.specs.declared.places.Place.{Place}
use Rattle.index_links.specs.Chains.{IsKept, Shrunk, walk}
use Rattle.index_links.specs.Nodes.{IsThere}
use Rattle.index_links.proofs.Steps.{rejoined, spare_more}
use Rattle.index_links.proofs.kept.Kept.cut.Goals as goal

pub cut_at-place-requires-clause-kept : goal.cut_at-place-requires-clause-kept
cut_at-place-requires-clause-kept g c =
    subst
    (λ (places : List (Place g.row.T.Denot)). IsKept places c.args.self.now.rows.entries c.args.self.now.ends
    c.args.self.now.len)
    (sym c.deref_mut.ensures.value) c.requires.kept

pub cut_at-place-requires-clause-there : goal.cut_at-place-requires-clause-there
cut_at-place-requires-clause-there g c =
    subst
    (λ (places : List (Place g.row.T.Denot)). IsThere c.args.at (walk c.args.self.now.len places
    c.args.self.now.ends.next))
    (sym c.deref_mut.ensures.value) c.requires.there

pub returns : goal.returns
returns g c =
    let old : List (Place g.row.T.Denot) = c.args.self.now.places.items in
    let new : List (Place g.row.T.Denot) = c.cut_at-place.new.places in
    let s : Shrunk old new c.cut_at-place.new.rows.entries c.args.self.now.ends c.cut_at-place.new.ends
    c.args.self.now.len c.args.at c.cut_at-place.result =
    subst
    (λ (places : List (Place g.row.T.Denot)). Shrunk places new c.cut_at-place.new.rows.entries c.args.self.now.ends
    c.cut_at-place.new.ends c.args.self.now.len c.args.at c.cut_at-place.result)
    c.deref_mut.ensures.value c.cut_at-place.ensures.shrunk in
    let size : length new ≡ c.args.self.now.places.len = c.cut_at-place.auto.places ∙ c.deref_mut.ensures.len in
    let same : length new ≡ length old =
    c.cut_at-place.auto.places
    ∙ ap (λ (places : List (Place g.row.T.Denot)). length places) c.deref_mut.ensures.value in
    let fewer : length new ≤ length old = omega arith in
    let rows : length c.cut_at-place.new.rows.entries ≤ length c.args.self.now.rows.entries =
    c.cut_at-place.ensures.len in
    let capacity : c.cut_at-place.new.rows.capacity ≡ c.args.self.now.rows.capacity = c.cut_at-place.ensures.capacity in
    let room : c.args.self.now.rows.capacity ≤ c.cut_at-place.new.rows.capacity = omega arith in
    let kept_room : vec_capacity c.args.self.now.places ≤ vec_capacity c.args.self.now.places = omega arith in
    rw (rejoined c.args.self.now.places.len new old size)
    (record {
      kept = s.kept;
      value = sym s.value ∙ c.unwrap.ensures;
      nodes = s.nodes;
      room =
          spare_more (length old) (length new) (vec_capacity c.args.self.now.places)
          (vec_capacity c.args.self.now.places) (length c.args.self.now.rows.entries)
          (length c.cut_at-place.new.rows.entries) c.args.self.now.rows.capacity c.cut_at-place.new.rows.capacity fewer
          kept_room rows room;
    })
