use Rattle.std.proofs.Common.{ap, ◌++◌, ◌∙◌}
use Rattle.pico_base.specs.declared.numbers.Name.TheVariants.{Proc, Msg, Sem}
use Rattle.deed_box.specs.Deeds.{deeds_of}
use Rattle.deed_box.proofs.Packs.{AllFit-left, AllFit-right, all_packed}
use Rattle.deed_box.proofs.deeds.Deeds.packed.Goals as goal

pub pack_kind-requires-2 : goal.pack_kind-requires-2
pack_kind-requires-2 g c =
    let held = c.args.self.now.bodies in
    let qs = deeds_of Msg held.queues in
    let ss = deeds_of Sem held.sets in
    rw c.sets.ensures
    (AllFit-right g.B.Shared.fits g.B.Shared.IsSpelled qs ss
    (AllFit-left g.B.Shared.fits g.B.Shared.IsSpelled (qs ++ ss) (deeds_of Proc held.processes) c.requires))

pub pack_kind-requires-3 : goal.pack_kind-requires-3
pack_kind-requires-3 g c =
    let held = c.args.self.now.bodies in
    rw c.processes.ensures
    (AllFit-right g.B.Shared.fits g.B.Shared.IsSpelled (deeds_of Msg held.queues ++ deeds_of Sem held.sets)
    (deeds_of Proc held.processes) c.requires)

pub returns : goal.returns
returns g c =
    let held = c.args.self.now.bodies in
    let qs = rw c.queues.ensures at c.in_ok-packed.ensures in
    let ss = rw c.sets.ensures at c.in_ok-sets.ensures in
    let ps = rw c.processes.ensures at c.in_ok-processes.ensures in
    all_packed g.B.Shared.fits g.B.Shared.IsSpelled (deeds_of Msg held.queues) (deeds_of Sem held.sets)
    (deeds_of Proc held.processes) _ _ _ _
    (c.from_vec.ensures ∙ c.in_ok-append-2.ensures.items
    ∙ ap (λ xs. xs ++ c.in_ok-processes.processes.items) c.in_ok-append.ensures.items) qs ss ps
