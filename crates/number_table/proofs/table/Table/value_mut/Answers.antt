use Rattle.std.proofs.Common.{ap, refl, sym, vec_capacity}
use Rattle.number_maps.specs.Maps.{Numbered}
use Rattle.number_table.specs.Placing.{Shelf, StandsAt}
use Rattle.number_table.proofs.Entries.{found_get, is_sorted-put_at, length-put_stands, set_there}
use Rattle.number_table.proofs.table.Table.value_mut.Goals as goal

pub invariant_of-self-lent : goal.invariant_of-self-lent
invariant_of-self-lent g c w =
    let items = c.self.inside.entries.items in
    let s : StandsAt items c.args.number c.args.place = rw (← c.self.view_is) at c.requires in
    rw (set_there items items c.args.number c.args.place c.index_mut.result.now w refl s c.index_mut.ensures.value)
    (is_sorted-put_at items c.args.number w c.self.invariant)

pub returns : goal.returns
returns g c =
    let items = c.self.inside.entries.items in
    let s : StandsAt items c.args.number c.args.place = rw (← c.self.view_is) at c.requires in
    let shelf : Numbered g.row.V.Denot → Shelf g.row.V.Denot =
    λ xs. record { entries = xs; capacity = vec_capacity c.self.inside.entries } in (
      (
        refl,
        λ w. rw (← c.self.view_is)
            (ap shelf (set_there items items c.args.number c.args.place c.index_mut.result.now w refl s
            c.index_mut.ensures.value)),
      ),
      record {
        writes_back = tt;
        value =
            rw (← c.self.view_is)
            (sym (found_get items items _ _ c.index_mut.result.now refl s c.index_mut.ensures.value));
        len = λ value. length-put_stands _ _ _ value c.requires;
      },
    )
