use Rattle.std.proofs.Common.{◌≡◌, ◌<◌, ◌∙◌, length, arith, rules}
use Rattle.std.proofs.Math.ListN.{length-set}
use Rattle.sysv_sem.proofs.Writes.{write-step, write-done}
use Rattle.sysv_sem.proofs.row.write_values.Goals as goal

pub loop-place-preserved : goal.loop-place-preserved
loop-place-preserved c =
    record {
      as_many = grind (arith, length-set);
      written =
          let some : c.loop-place.place < length c.args.values.now = omega arith
          in let alike : length c.args.values.now ≡ length c.args.semaphores.now.items = search rules
          in write-step c.args.semaphores.now.items c.args.values.now c.loop-place.semaphores.items c.loop-place.place
          c.index-old.result.now (record { value = c.old.inside.value; last = c.old.inside.last }) some alike
          c.loop-place.invariant.written c.old.view_is c.index-old.ensures;
    }

pub returns-clause-written : goal.returns-clause-written
returns-clause-written c =
    let alike : length c.args.values.now ≡ length c.args.semaphores.now.items = search rules
    in c.loop-place.invariant.written
    ∙ write-done c.args.semaphores.now.items c.args.values.now c.loop-place.place (omega arith)
