use Rattle.std.proofs.Common.{ap, refl, ◌∙◌}
use Rattle.number_table.proofs.Entries.{is_sorted-put_at, present_absent, put_there}
use Rattle.number_table.proofs.table.Table.put.Goals as goal

pub unreachable-requires : goal.unreachable-requires
unreachable-requires g c =
    present_absent _ _ _ _
    (c.as_slice.ensures.value ∙ ap (λ t. t.entries) c.self.view_is) c.in-Ok.ensures c.requires.absent

pub invariant_of-self : goal.invariant_of-self
invariant_of-self g c =
    let s = rw c.as_slice.ensures.value at c.in-Err.ensures in
    let items = rw c.unwrap.ensures at c.insert.ensures.items in
    rw (put_there c.self.inside.entries.items _ c.insert.new.self.items c.args.number c.in-Err.place c.args.value refl s
    items)
    (is_sorted-put_at c.self.inside.entries.items c.args.number c.args.value c.self.invariant)

pub returns-clause-entries : goal.returns-clause-entries
returns-clause-entries g c =
    let s = rw c.as_slice.ensures.value at c.in-Err.ensures in
    let items = rw c.unwrap.ensures at c.insert.ensures.items in
    put_there c.self.inside.entries.items _ _ c.args.number c.in-Err.place c.args.value
    (ap (λ t. t.entries) c.self.view_is) s items
