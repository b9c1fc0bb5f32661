use Rattle.std.proofs.Common.{◌<◌, pos, false, length, arith, rules}
use Rattle.std.proofs.Math.ListN.{length-set}
use Rattle.pico_base.specs.declared.call.SemStep.{SemStep}
use Rattle.sysv_sem.proofs.Writes.{mark-step}
use Rattle.sysv_sem.proofs.row.mark.Goals as goal

pub loop-step-preserved : goal.loop-step-preserved
loop-step-preserved c =
    let i = c.loop-step.step-index
    in let no_step : SemStep = record { num = 0; add = pos 0; nowait = false }
    in let inside : i < length c.args.steps.now = omega arith
    in let within : c.from-num.result < length c.loop-step.semaphores.items = search rules
    in record {
      as_many = grind (arith, length-set);
      marked = mark-step c.args.semaphores.now.items c.args.pid c.args.steps.now i c.from-num.result no_step
          c.loop-step.semaphores.items
          c.index-old.result.now
          (record { value = c.old.inside.value; last = c.old.inside.last }) inside c.from-num.ensures within
          c.loop-step.invariant.marked c.old.view_is c.index-old.ensures;
    }
