use Rattle.node_model.specs.Kinds.{name_of}
use Rattle.deed_box.proofs.Packs.{PacksRest}
use Rattle.deed_box.proofs.packing.pack_kind.Given as goal

abbrev pub invariant-loop-entry : goal.invariant-loop-entry
invariant-loop-entry g l =
    PacksRest g.B.Shared.fits g.B.Shared.IsSpelled (name_of l.kind) l.entries l.entry-index l.packed.items
