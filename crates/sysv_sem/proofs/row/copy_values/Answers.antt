use Rattle.std.proofs.Common.{◌≡◌, ◌<◌, ◌∙◌, length, arith, rules}
use Rattle.std.proofs.Math.ListN.{length-set}
use Rattle.sysv_sem.proofs.Trials.{copy-step, copy-done}
use Rattle.sysv_sem.proofs.row.copy_values.Goals as goal

pub loop-place-preserved : goal.loop-place-preserved
loop-place-preserved c =
    let inside : c.loop-place.place < length c.args.semaphores.now = omega arith
    in let alike : length c.args.values.now.items ≡ length c.args.semaphores.now = search rules
    in record {
      as_many = grind (arith, length-set);
      copied = rw c.value.ensures
          (copy-step c.args.semaphores.now c.args.values.now.items c.loop-place.values.items c.loop-place.place
          c.index-semaphores-place.result inside alike c.loop-place.invariant.copied c.index-semaphores-place.is);
    }

pub returns-clause-copied : goal.returns-clause-copied
returns-clause-copied c =
    let alike : length c.args.values.now.items ≡ length c.args.semaphores.now = search rules
    in c.loop-place.invariant.copied
    ∙ copy-done c.args.semaphores.now c.args.values.now.items c.loop-place.place (omega arith) alike
