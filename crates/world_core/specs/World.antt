-- What contracts see of the program's worlds: a world of the machine, or none where it is spent.
use Rattle.std.specs.Prelude.{Option, IfSome}
use Rattle.std.specs.Option.{option_map}
use Rattle.kernel_model.specs.Script.{IsSoundScript}
use Rattle.world_model.specs.World.{World}
use Rattle.world_model.specs.Run.{IsReachableWorld}
use Rattle.world_core.specs.declared.state.State.{State}
use Rattle.world_core.specs.State.{IsAlive, world_of}

abbrev pub world_in : Option State → Option World
world_in s = option_map world_of s

abbrev pub IsSoundState : Option State → Type 0
IsSoundState s = IfSome s IsAlive

-- a run of its script, which is sound, leads to the world
pub record IsReached (w : World) : Type 0 where
  pub sound : IsSoundScript w.script
  pub reachable : IsReachableWorld w.script w

abbrev pub IsSoundWorld : Option World → Type 0
IsSoundWorld w = IfSome w IsReached
