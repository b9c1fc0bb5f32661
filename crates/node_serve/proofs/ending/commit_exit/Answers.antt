use Rattle.std.proofs.Common.{◌≡◌, None}
use Rattle.node_serve.specs.Ending.{Commits, EndsAsInKernels, TakesThenWakes}
use Rattle.node_serve.proofs.Commits.{commits-as-the-kernel, if-ok-on, takes-commits}
use Rattle.node_serve.proofs.KernelLemmas.{if-ok}
use Rattle.node_serve.proofs.Parcels.{names-distinct}
use Rattle.node_serve.proofs.ending.commit_exit.Goals as goal

pub take_parcel-requires-clause-distinct : goal.take_parcel-requires-clause-distinct
take_parcel-requires-clause-distinct c = names-distinct c.args.parcel c.requires.fits

pub returns-clause-ok : goal.returns-clause-ok
returns-clause-ok c =
    if-ok (TakesThenWakes c.args.deeds.now.bodies c.args.parcel c.args.awaits c.take_parcel.new.deeds.bodies)
    (Commits c.args.deeds.now.bodies c.args.parcel c.args.awaits c.take_parcel.new.deeds.bodies) c.take_parcel.result
    (λ own taken.
    takes-commits c.args.deeds.now.bodies c.args.parcel c.args.awaits c.take_parcel.new.deeds.bodies own
    c.requires.parent c.requires.absent c.requires.fits taken)
    c.take_parcel.ensures.ok

pub returns-clause-kernel : goal.returns-clause-kernel
returns-clause-kernel c =
    if-ok-on (TakesThenWakes c.args.deeds.now.bodies c.args.parcel c.args.awaits c.take_parcel.new.deeds.bodies)
    (c.args.awaits ≡ None → EndsAsInKernels c.args.deeds.now.bodies c.args.parcel c.take_parcel.new.deeds.bodies)
    c.take_parcel.result
    (λ own taken.
    commits-as-the-kernel c.args.deeds.now.bodies c.args.parcel c.args.awaits c.take_parcel.new.deeds.bodies own
    (takes-commits c.args.deeds.now.bodies c.args.parcel c.args.awaits c.take_parcel.new.deeds.bodies own
    c.requires.parent c.requires.absent c.requires.fits taken))
    c.take_parcel.ensures.ok
