use Rattle.std.proofs.Common.{◌≡◌, ◌≢◌, ◌<◌, ◌≤◌, ◌+◌, ◌-◌, List, length, vec_capacity, refl, sym, ap, subst, ◌∙◌, arith}
use Rattle.index_links.specs.declared.places.Place.{Place}
use Rattle.index_links.specs.Chains.{nowhere, added, row_at, AreRelinked}
use Rattle.index_links.specs.Keys.{class_of}
use Rattle.index_links.specs.Nodes.{Node}
use Rattle.index_links.proofs.Added.{IsAdded}
use Rattle.index_links.proofs.Steps.{Grown, few_nodes, grown, last_valid, placed_within, rejoined, row_last_valid, spare_one, spare_parts, within_alike, within_arrival}
use Rattle.index_links.proofs.kept.Kept.add.Goals as goal

pub link_new-requires-clause-last : goal.link_new-requires-clause-last
link_new-requires-clause-last g c some =
    subst (λ (places : List (Place g.row.T.Denot)). c.args.self.now.ends.back < length places)
    (sym c.deref_mut.ensures.value)
    (placed_within _ _ _ _ _ c.put_new-at.ensures.placed c.put_new-at.ensures.there
    (within_arrival _ _ (last_valid _ _ _ _ c.requires.kept) some))

pub link_new-requires-clause-row : goal.link_new-requires-clause-row
link_new-requires-clause-row g c some =
    subst
    (λ (places : List (Place g.row.T.Denot)). (row_at c.args.self.now.rows.entries c.args.key).back < length places)
    (sym c.deref_mut.ensures.value)
    (placed_within _ _ _ _ _ c.put_new-at.ensures.placed c.put_new-at.ensures.there
    (within_alike _ _ (row_last_valid _ _ _ _ c.requires.kept c.args.key) some))

pub overflow_add-self : goal.overflow_add-self
overflow_add-self g c =
    let room = spare_parts 1 _ _ _ _ c.requires.room in
    let free : 1 ≤ nowhere - length c.args.self.now.places.items = room.1 in
    let few : c.args.self.now.len ≤ length c.args.self.now.places.items = few_nodes _ _ _ _ c.requires.kept in
    omega arith

pub returns : goal.returns
returns g c =
    let old : List (Place g.row.T.Denot) = c.args.self.now.places.items in
    let mid : List (Place g.row.T.Denot) = c.put_new-at.new.places.items in
    let new : List (Place g.row.T.Denot) = c.link_new.new.places in
    let n : Node g.row.T.Denot =
    record { slot = c.put_new-at.result; class = class_of c.args.key; value = c.args.value } in
    let room = spare_parts 1 (length old) _ _ _ c.requires.room in
    let free : 1 ≤ nowhere - length old = room.1 in
    let more : length mid ≤ length old + 1 = c.put_new-at.ensures.more in
    let there : c.put_new-at.result < length mid = c.put_new-at.ensures.there in
    let same : length new ≡ length mid =
    c.link_new.auto.places ∙ ap (λ (places : List (Place g.row.T.Denot)). length places) c.deref_mut.ensures.value in
    let size : length new ≡ c.put_new-at.new.places.len = c.link_new.auto.places ∙ c.deref_mut.ensures.len in
    let some : c.put_new-at.result ≢ nowhere = omega arith in
    let few : length new ≤ nowhere = omega arith in
    let a : IsAdded old mid new c.args.self.now.rows.entries c.link_new.new.rows.entries c.args.self.now.ends
    c.link_new.new.ends n c.args.key =
    record {
      free = c.put_new-at.ensures.free;
      placed = c.put_new-at.ensures.placed;
      relinked =
          subst
          (λ (places : List (Place g.row.T.Denot)). AreRelinked (added c.args.self.now.ends.back c.put_new-at.result)
          (added (row_at c.args.self.now.rows.entries c.args.key).back c.put_new-at.result) places new)
          c.deref_mut.ensures.value c.link_new.ensures.places;
      at_end = c.link_new.ensures.ends;
      in_rows = c.link_new.ensures.rows;
      few = few;
      is_key = c.requires.fits;
      is_class = refl;
      some = some;
    } in
    let result : Grown old new c.link_new.new.rows.entries c.args.self.now.ends c.link_new.new.ends
    c.args.self.now.len n =
    grown old mid new c.args.self.now.rows.entries c.link_new.new.rows.entries c.args.self.now.ends c.link_new.new.ends
    c.args.self.now.len n c.args.key c.requires.kept a in
    let longer : length new ≤ length old + 1 = omega arith in
    let rows : length c.link_new.new.rows.entries ≤ length c.args.self.now.rows.entries + 1 = c.link_new.ensures.len in
    rw (rejoined c.put_new-at.new.places.len new mid size)
    (record {
      kept = result.kept;
      new = result.new;
      nodes = result.nodes;
      room =
          rw (c.put_new-at.ensures.capacity, c.link_new.ensures.capacity)
          (spare_one (length old) (length new) (vec_capacity c.args.self.now.places)
          (length c.args.self.now.rows.entries) (length c.link_new.new.rows.entries)
          c.args.self.now.rows.capacity longer rows);
    })
