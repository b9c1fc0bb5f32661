-- How a world at rest is left: each process has ended, or some wait for good, as nothing will ever let them go on.
use Rattle.std.specs.Prelude.{◌≡◌, ℕ, List, Bool, true, false, Some, None, IsSome}
use Rattle.std.specs.List.{list_any}
use Rattle.std.specs.Option.{option_map_or}
use Rattle.waiting_model.specs.History.{Replays}
use Rattle.waiting_model.specs.Kernel.{Kernel, living_at, opening}
use Rattle.waiting_model.specs.Marks.{Alive}
use Rattle.world_model.specs.Run.{is_stalled}
use Rattle.world_model.specs.World.{World}
use Rattle.rest_laws.specs.Laws.{SomebodyLives}
use Rattle.pico_run.specs.declared.rested.Rested.{Rested}
use Rattle.pico_cmd.specs.declared.status.Status.{Status}
use Rattle.pico_cmd.specs.declared.status.Status.TheVariants.{Done, Stalled}

-- said of the kernel that the journal replays to
pub record IsLeftAs (stalled : Bool) (last : World) : Type 0 where
  pub stalled_is : is_stalled last ≡ stalled
  -- a process that lives waits, and no signal has doomed it
  pub waits : (k : Kernel) (pid : ℕ) (a : Alive) → Replays opening last.journal k → living_at k pid ≡ Some a
      → IsSome a.marks.parked × (a.row.signals.doom ≡ None)
  pub ended : stalled ≡ false → (k : Kernel) (pid : ℕ) → Replays opening last.journal k → living_at k pid ≡ None
  pub left : stalled ≡ true → (k : Kernel) → Replays opening last.journal k → SomebodyLives k

-- the status that goes with it
abbrev pub status_left : Bool → Status
status_left false = Done
status_left true = Stalled

-- whether some of these runs with threads are left so
abbrev pub is_left_stalled : Rested → Bool
is_left_stalled r = option_map_or is_stalled r.world false

abbrev pub are_left_stalled : List Rested → Bool
are_left_stalled rested = list_any is_left_stalled rested
