use Rattle.std.proofs.Common.{ap, ◌∙◌}
use Rattle.number_table.proofs.Entries.{absent_get, found_get}
use Rattle.number_table.proofs.table.Table.get.Goals as goal

pub returns-in-Ok : goal.returns-in-Ok
returns-in-Ok g c =
    let s = rw c.as_slice.ensures.value at c.in-Ok.ensures in
    found_get c.self.inside.entries.items _ _ _ c.index.result.now
    (ap (λ t. t.entries) c.self.view_is) s c.index.ensures

pub returns-in-Err : goal.returns-in-Err
returns-in-Err g c = absent_get _ _ _ _ (c.as_slice.ensures.value ∙ ap (λ t. t.entries) c.self.view_is) c.in-Err.ensures
