use Rattle.std.proofs.Common.{◌-◌, length}
use Rattle.pico_base.specs.declared.script.Script.{Script}
use Rattle.kernel_model.specs.Script.{IsSoundScript}
use Rattle.pico_run.specs.Resting.{IsGoing}
use Rattle.pico_run.proofs.OnTheWay.{IsOnTheWay}
use Rattle.pico_run.proofs.resting.rest.Given as goal

-- the run so far
abbrev pub invariant-loop-event : goal.invariant-loop-event
invariant-loop-event l =
    (script : Script) → IsSoundScript script → IsGoing script l.fn.so_far
    → IsOnTheWay script (record {
      journal = l.journal;
      events = l.events;
      world = l.world;
      partings =
          l.fn.so_far.partings;
    })
    l.stamp l.after

-- how many events there may be more
abbrev pub decreases-loop-event : goal.decreases-loop-event
decreases-loop-event l = 640001 - length l.events
