use Rattle.std.proofs.Common.{refl}
use Rattle.std.proofs.lemmas.Bool.{false≢true}
use Rattle.number_table.proofs.Entries.{absent_get, length-put_stands}
use Rattle.number_table.proofs.table.Table.entry_mut.Goals as goal

pub unreachable-requires : goal.unreachable-requires
unreachable-requires g c = false≢true (rw (← absent_get _ _ _ _ refl c.in-Err.ensures) at c.requires)

pub returns : goal.returns
returns g c = (
  (refl, λ w. refl),
  record {
    writes_back = tt;
    value = c.value_mut.ensures.value;
    len =
        λ body. length-put_stands _ _ _ body c.in-Ok.ensures;
  },
)
