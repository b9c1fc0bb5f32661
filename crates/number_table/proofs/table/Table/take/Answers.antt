use Rattle.std.proofs.Common.{ap, ◌∙◌, refl}
use Rattle.number_table.proofs.Entries.{absent_get, found_get, is_sorted-without, without_absent, without_there}
use Rattle.number_table.proofs.table.Table.take.Goals as goal

pub invariant_of-self : goal.invariant_of-self
invariant_of-self g c =
    let s = rw c.as_slice.ensures.value at c.in-Ok.ensures in
    rw (without_there c.self.inside.entries.items _ c.remove.new.self.items c.args.number c.in-Ok.place refl s
    c.remove.ensures.items)
    (is_sorted-without c.self.inside.entries.items c.args.number c.self.invariant)

pub returns-in-Ok-clause-value : goal.returns-in-Ok-clause-value
returns-in-Ok-clause-value g c =
    let s = rw c.as_slice.ensures.value at c.in-Ok.ensures in
    found_get c.self.inside.entries.items _ _ _ c.remove.result
    (ap (λ t. t.entries) c.self.view_is) s c.remove.ensures.value

pub returns-in-Ok-clause-entries : goal.returns-in-Ok-clause-entries
returns-in-Ok-clause-entries g c =
    let s = rw c.as_slice.ensures.value at c.in-Ok.ensures in
    without_there c.self.inside.entries.items _ _ c.args.number c.in-Ok.place
    (ap (λ t. t.entries) c.self.view_is) s c.remove.ensures.items

pub returns-in-Err-clause-value : goal.returns-in-Err-clause-value
returns-in-Err-clause-value g c =
    absent_get _ _ _ _ (c.as_slice.ensures.value ∙ ap (λ t. t.entries) c.self.view_is) c.in-Err.ensures

pub returns-in-Err-clause-entries : goal.returns-in-Err-clause-entries
returns-in-Err-clause-entries g c =
    without_absent _ _ _ _ (c.as_slice.ensures.value ∙ ap (λ t. t.entries) c.self.view_is) c.in-Err.ensures
