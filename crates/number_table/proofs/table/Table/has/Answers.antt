use Rattle.std.proofs.Common.{ap, ◌∙◌}
use Rattle.number_table.proofs.Entries.{is_some_place}
use Rattle.number_table.proofs.table.Table.has.Goals as goal

pub returns : goal.returns
returns g c =
    c.is_ok.ensures.value
    ∙ is_some_place _ _ c.args.number c.place_of.result
    (c.as_slice.ensures.value ∙ ap (λ s. s.entries) c.self.view_is) c.place_of.ensures
