use Rattle.std.proofs.Common.{◌<◌, ◌∙◌, length, arith, rules}
use Rattle.sysv_sem.proofs.Trials.{try-goes-at, try-stops-at}
use Rattle.sysv_sem.proofs.trial.try_in_order.Goals as goal

pub loop-place-preserved : goal.loop-place-preserved
loop-place-preserved c =
    let inside : c.loop-place.place < length c.args.steps.now = omega arith
    in record {
      as_many = search rules;
      rest = c.loop-place.invariant.rest
          ∙ try-goes-at c.loop-place.place c.loop-place.values.items c.move_one.new.values.items c.args.steps.now _
          inside
          c.in-Ok.ensures.moved;
    }

pub returns-in-Err-clause-tried : goal.returns-in-Err-clause-tried
returns-in-Err-clause-tried c =
    let inside : c.loop-place.place < length c.args.steps.now = omega arith
    in rw c.stopped.ensures
    (c.loop-place.invariant.rest
    ∙ try-stops-at c.loop-place.place c.loop-place.values.items c.move_one.new.values.items c.args.steps.now _
    c.in-Err.errno inside c.in-Err.ensures.moved.0)
