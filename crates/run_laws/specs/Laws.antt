-- What holds of every run of the whole machine with a sound script, whatever the schedule.
use Rattle.std.specs.Prelude.{◌≡◌, true, List, IsSome}
use Rattle.pico_base.specs.declared.script.Event.{Event}
use Rattle.pico_base.specs.declared.script.Script.{Script}
use Rattle.kernel_model.specs.Script.{IsSoundScript}
use Rattle.waiting_model.specs.Fitting.{Fits}
use Rattle.waiting_model.specs.History.{IsLegal}
use Rattle.world_model.specs.Run.{IsReachableWorld, Runs}
use Rattle.world_model.specs.Schedule.{Schedule, Follows}
use Rattle.world_model.specs.World.{World, is_enabled, step}
use Rattle.world_laws.specs.Invariant.{HasInvariant}
use Rattle.weight_laws.specs.Runs.{RunsAreShort as EachRunIsShort}

-- The journal is one history of a single POSIX kernel, and each process's calls stand in it once and in order.
abbrev pub JournalsAreLegal : Type 0
JournalsAreLegal = (script : Script) (w : World) → IsSoundScript script → IsReachableWorld script w
    → IsLegal w.journal × Fits script w.journal

-- An enabled event has a step: no frame comes that its receiver has no rule for, and no call is due that has none.
abbrev pub EnabledEventsHaveSteps : Type 0
EnabledEventsHaveSteps =
    (script : Script) (w : World) (e : Event) → IsSoundScript script → IsReachableWorld script w
    → is_enabled w e ≡ true → IsSome (step w e)

-- A run has at most 32 events for each call of its script.
abbrev pub RunsAreShort : Type 0
RunsAreShort = (script : Script) → IsSoundScript script → EachRunIsShort script

-- Something stands beside each world with which the invariant holds.
abbrev pub WorldsHaveTheInvariant : Type 0
WorldsHaveTheInvariant =
    (script : Script) (w : World) → IsSoundScript script → IsReachableWorld script w → HasInvariant script w

-- What a schedule takes is a run.
abbrev pub SchedulesAreRuns : Type 0
SchedulesAreRuns =
    (w last : World) (schedule : Schedule) (events : List Event) → Follows w schedule events last
    → Runs w events last
