use Rattle.std.proofs.Common.{◌≡◌, Err, ap, arith}
use Rattle.pico_base.specs.declared.fault.UnpackFault.TheVariants.{NotABody}
use Rattle.deed_box.proofs.Packs.{packed-length, some_at, unpacks_end, unpacks_next}
use Rattle.deed_box.proofs.packing.unpack_all.Goals as goal

pub loop-deed-init : goal.loop-deed-init
loop-deed-init g c = rw c.in_ok-deeds.ensures.items (λ ds rest. rest)

pub returns-clause-ok : goal.returns-clause-ok
returns-clause-ok g c =
    unpacks_end _ _ _ c.loop-deed.deed-index _ (omega (arith, c.loop-deed-test.false)) c.loop-deed.invariant

pub returns-clause-count : goal.returns-clause-count
returns-clause-count g c =
    packed-length _ _ _ _
    (unpacks_end g.B.Shared.fits g.B.Shared.IsSpelled _ c.loop-deed.deed-index _ (omega (arith, c.loop-deed-test.false))
    c.loop-deed.invariant)

pub returns-in-Err-clause-not_a_body : goal.returns-in-Err-clause-not_a_body
returns-in-Err-clause-not_a_body g c is =
    let same : c.in-Err.fault ≡ NotABody = cc in
    some_at g.B.Shared.fits g.B.Shared.IsSpelled c.args.packed.now c.loop-deed.deed-index c.deed-item.result
    c.loop-deed-test.true c.deed-item.is
    (λ body fits spelled. c.in-Err.ensures.refused (ap (λ f. Err f) same) body fits (rw c.as_slice.ensures spelled))
