use Rattle.number_table.proofs.Guesses.{rising_sorted}
use Rattle.number_table.proofs.table.Table.rise.Goals as goal

pub returns : goal.returns
returns g c = rw (← c.self.view_is) (rising_sorted c.self.inside.entries.items c.self.invariant)
