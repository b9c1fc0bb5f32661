use Rattle.number_table.proofs.Entries.{get-belongs}
use Rattle.number_table.proofs.table.Table.find.Goals as goal

pub returns-in-Err : goal.returns-in-Err
returns-in-Err g c = get-belongs _ _ _ c.in-Err.ensures
