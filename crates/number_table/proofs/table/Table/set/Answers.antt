use Rattle.std.proofs.Common.{arith}
use Rattle.number_table.proofs.Entries.{get-belongs, length-put_stands}
use Rattle.number_table.proofs.table.Table.set.Goals as goal

pub put-requires-clause-absent : goal.put-requires-clause-absent
put-requires-clause-absent g c = get-belongs _ _ _ c.in-Err.ensures

pub returns-in-Ok-clause-len : goal.returns-in-Ok-clause-len
returns-in-Ok-clause-len g c = omega (arith, length-put_stands _ _ _ c.args.value c.in-Ok.ensures)
