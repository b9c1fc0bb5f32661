use Rattle.deed_box.proofs.Packs.{UnpacksRest}
use Rattle.deed_box.proofs.packing.unpack_all.Given as goal

abbrev pub invariant-loop-deed : goal.invariant-loop-deed
invariant-loop-deed g l = UnpacksRest g.B.Shared.fits g.B.Shared.IsSpelled l.packed l.deed-index l.deeds.items
