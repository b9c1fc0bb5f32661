use Rattle.std.proofs.Common.{arith, refl}
use Rattle.node_model.specs.Kinds.{name_of}
use Rattle.deed_box.proofs.Packs.{fits_at, packs_end, packs_next}
use Rattle.deed_box.proofs.packing.pack_kind.Goals as goal

pub loop-entry-init : goal.loop-entry-init
loop-entry-init g c = rw c.in_ok-packed.ensures.items (λ ps rest. rest)

pub create_packed-requires : goal.create_packed-requires
create_packed-requires g c =
    rw c.name_of.ensures (fits_at g.B.Shared.fits g.B.Shared.IsSpelled
    (name_of c.args.kind) c.args.entries.now c.loop-entry.entry-index c.entry-item.result c.loop-entry-test.true
    c.entry-item.is c.requires)

pub loop-entry-preserved : goal.loop-entry-preserved
loop-entry-preserved g c =
    let one = rw c.name_of.ensures at c.in_ok-deed.ensures in
    let items = rw c.in_ok-push.was at c.push.ensures.items in
    rw items
    (packs_next g.B.Shared.fits g.B.Shared.IsSpelled
    (name_of c.args.kind) c.args.entries.now c.loop-entry.entry-index _ c.entry-item.result c.in_ok-deed.deed
    c.loop-entry.packed.items
    (omega arith) c.loop-entry-test.true c.entry-item.is one c.loop-entry.invariant)

pub returns : goal.returns
returns g c = packs_end _ _ _ _ c.loop-entry.entry-index _
    (omega (arith, c.loop-entry-test.false)) c.loop-entry.invariant
