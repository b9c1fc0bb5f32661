-- What a table ends as, where a value is lent to be changed.
use Rattle.std.specs.Prelude.{ℕ}
use Rattle.std.specs.Borrow.{Fml, Lends, MutBor, RattleType}
use Rattle.number_maps.specs.Maps.{put}
use Rattle.number_table.specs.Placing.{Shelf}
use Rattle.number_table.specs.contracts.table.Table.{the_row as table_row}

module _ (T : RattleType) (s : MutBor (Shelf T.Denot)) (number : ℕ) where
  -- the table, with what is last written behind the result at the number
  abbrev pub lends_entry : MutBor T.Denot → Fml
  lends_entry r = Lends (table_row T) T s r (λ body. record s.now { entries = put s.now.entries number body })
