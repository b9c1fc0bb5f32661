-- What deeds end as, where a body is lent to be changed.
use Rattle.std.specs.Prelude.{Option}
use Rattle.std.specs.Borrow.{Fml, Lends, LendsIf, MutBor, RattleType}
use Rattle.pico_base.specs.declared.numbers.Name.{Name}
use Rattle.node_model.specs.Kinds.{put_named}
use Rattle.deed_box.specs.Deeds.{Holdings}
use Rattle.deed_box.specs.contracts.deeds.Deeds.{the_row as deeds_row}

module _ (T : RattleType) (s : MutBor (Holdings T.Denot)) (name : Name) where
  abbrev pub with_body : T.Denot → Holdings T.Denot
  with_body body = record s.now { bodies = put_named s.now.bodies name body }

  -- the deeds, with what is last written behind the result as the name's body
  abbrev pub lends_body : MutBor T.Denot → Fml
  lends_body r = Lends (deeds_row T) T s r with_body

  -- the same where the name's deed is there, and else as they are
  abbrev pub lends_body_if : Option (MutBor T.Denot) → Fml
  lends_body_if r = LendsIf (deeds_row T) T s r with_body s.now
