use Rattle.std.proofs.Common.{◌≡◌, ◌+◌, ◌∙◌, arith}
use Rattle.std.specs.List.{count_by}
use Rattle.waiting_model.specs.SemaphoreSet.{stop_of, steps_of}
use Rattle.sysv_sem.specs.Calls.{tests}
use Rattle.sysv_sem.proofs.Removed.{counts_further}
use Rattle.sysv_sem.proofs.Walk.{there, further}
use Rattle.sysv_sem.proofs.waiters.count_waiters.Goals as goal

pub value-requires : goal.value-requires
value-requires c =
    there c.args.waiters.now.nodes
    (λ ws. c.loop.count
    ≡ count_by (λ w. tests c.args.look c.args.num (stop_of c.args.row.now (steps_of w.call))) ws) c.loop.at
    c.loop.counter c.in-Some.slot c.have_own_slots.ensures c.in-Some.is c.loop.invariant.reached

pub loop-preserved : goal.loop-preserved
loop-preserved c =
    let stop = rw (c.steps_of.ensures, c.loop.invariant.same) at c.stop-stop.ensures.stop in
    let one = rw stop at c.counted-count.ensures.one in
    record {
      same = c.stop-stop.ensures.same ∙ c.loop.invariant.same;
      few = omega (arith, c.counted-count.ensures.few, c.loop.invariant.few);
      reached = further c.args.waiters.now.nodes
          (λ ws. c.loop.count
          ≡ count_by (λ w. tests c.args.look c.args.num (stop_of c.args.row.now (steps_of w.call))) ws)
          (λ ws. c.loop.count + c.counted-count.result
          ≡ count_by (λ w. tests c.args.look c.args.num (stop_of c.args.row.now (steps_of w.call))) ws) c.loop.at
          c.next-at.result c.loop.counter c.in-Some.slot c.value.result.now c.have_own_slots.ensures c.in-Some.is
          c.value.ensures c.next-at.ensures.slot
          (counts_further (λ w. tests c.args.look c.args.num (stop_of c.args.row.now (steps_of w.call)))
          c.value.result.now c.loop.count c.counted-count.result one) c.loop.invariant.reached;
    }
