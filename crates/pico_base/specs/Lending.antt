-- What a list ends as, where its items are lent to be changed.
use Rattle.std.specs.Prelude.{List}
use Rattle.std.specs.Borrow.{Fml, Lends, MutBor, RattleType}
use Rattle.std.specs.contracts.alloc.Global as global
use Rattle.std.specs.contracts.vec.Vec as vec
use Rattle.std.specs.contracts.impls.GlobalAllocator.TheImpl.{ghosts}
use Rattle.pico_base.specs.contracts.sequence.Sequence.{the_row as sequence_row}

module _ (T : RattleType) where
  -- a vector of such items, as the logic holds it
  abbrev pub items_row : RattleType
  items_row = vec.the_row T global.the_row ghosts

  -- the list of what is last written behind the result
  abbrev pub lends_items : MutBor (List T.Denot) → MutBor items_row.Denot → Fml
  lends_items s r = Lends (sequence_row T) items_row s r (λ v. v.items)
