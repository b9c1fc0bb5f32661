-- What holds of every world that a run of a sound script leads to: it projects to the kernel that its journal replays
-- to.
use Rattle.std.specs.Prelude.{List, ◌++◌}
use Rattle.pico_base.specs.declared.script.Event.{Event}
use Rattle.pico_base.specs.declared.script.Script.{Script}
use Rattle.kernel_model.specs.Script.{IsSoundScript}
use Rattle.waiting_model.specs.History.{Replays}
use Rattle.waiting_model.specs.Kernel.{Kernel, opening}
use Rattle.world_model.specs.Run.{IsReachableWorld, IsRunOf}
use Rattle.world_model.specs.World.{World}
use Rattle.projection_laws.specs.Projection.{Projects}

abbrev pub WorldsProject : Type 0
WorldsProject =
    (script : Script) (w : World) (k : Kernel) → IsSoundScript script → IsReachableWorld script w
    → Replays opening w.journal k → Projects w k

-- these events lead to a world, whose journal replays to a kernel to which the world projects
pub record ProjectsAfter (script : Script) (events : List Event) : Type 0 where
  pub world : World
  pub runs : IsRunOf script events world
  pub kernel : Kernel
  pub replays : Replays opening world.journal kernel
  pub projects : Projects world kernel

-- So it is after every prefix of every run.
abbrev pub EachPrefixProjects : Type 0
EachPrefixProjects =
    (script : Script) (events more : List Event) (last : World) → IsSoundScript script
    → IsRunOf script (events ++ more) last → ProjectsAfter script events
