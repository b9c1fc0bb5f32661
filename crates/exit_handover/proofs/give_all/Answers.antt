use Rattle.std.proofs.Common.{refl, ◌++◌}
use Rattle.pico_base.specs.declared.numbers.Name.TheVariants.{Proc, Msg, Sem}
use Rattle.deed_box.specs.Deeds.{deeds_of}
use Rattle.exit_handover.specs.Giving.{objects_in, processes_in}
use Rattle.exit_handover.proofs.Splitting.{AreOfKind-append, objects_packed, processes_are_none, processes_packed, queues_are_objects, sets_are_objects}
use Rattle.exit_handover.proofs.give_all.Goals as goal

pub returns-clause-given : goal.returns-clause-given
returns-clause-given g c =
    let fits = g.B.Shared.fits in
    let spelled = g.B.Shared.IsSpelled in
    let held = c.args.deeds.now.bodies in
    let qs = deeds_of Msg held.queues in
    let ss = deeds_of Sem held.sets in
    let ps = deeds_of Proc held.processes in
    let kinds = AreOfKind-append fits spelled _ qs ss (queues_are_objects fits spelled held.queues)
    (sets_are_objects fits spelled held.sets) in
    let others = processes_are_none fits spelled held.processes in
    let packed = c.in_ok-packed.ensures.packed in
    let sorted = rw c.into_vec.ensures at c.in_ok-frames.ensures in
    record {
      objects = objects_in c.in_ok-packed.packed;
      processes = processes_in c.in_ok-packed.packed;
      objects_packed = objects_packed fits spelled (qs ++ ss) ps c.in_ok-packed.packed kinds others packed;
      processes_packed = processes_packed fits spelled (qs ++ ss) ps c.in_ok-packed.packed kinds others packed;
      frames = rw (c.from_vec.ensures, c.in_ok-push.ensures.items, c.from_vec-deeds.ensures)
          (rw (sorted.0, sorted.1) refl);
    }
