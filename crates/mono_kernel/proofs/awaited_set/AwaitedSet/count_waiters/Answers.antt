use Rattle.std.proofs.Common.{arith, rules}
use Rattle.mono_kernel.specs.Waiters.{tests}
use Rattle.mono_kernel.proofs.CountLemmas.{count-step}
use Rattle.mono_kernel.proofs.awaited_set.AwaitedSet.count_waiters.Goals as goal

pub loop-place-preserved : goal.loop-place-preserved
loop-place-preserved c =
    let at = rw c.loop-place.invariant.same at c.stop_at-stop.ensures.stop
    in record {
      same = search rules;
      few = omega (arith, c.counted-count.ensures.few, c.loop-place.invariant.few);
      counted = count-step (tests c.args.look c.args.num) c.args.self.now c.loop-place.place c.loop-place.count
          c.counted-count.result c.stop_at-stop.result at c.loop-place.invariant.counted c.counted-count.ensures.one;
    }
