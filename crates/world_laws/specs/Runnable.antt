-- What a script has to be for the machine to run it.
use Rattle.std.specs.Prelude.{◌≡◌, ◌≤◌, ◌<◌, ℕ, true}
use Rattle.std.specs.List.{list_any}
use Rattle.pico_base.specs.declared.script.Script.{Script}
use Rattle.node_model.specs.Caller.{lines_of}
use Rattle.world_model.specs.Lives.{names_block}
use Rattle.world_model.specs.World.{node_count}
use Rattle.world_laws.specs.Callers.{HasTries}

-- it has a block, each line is tried once at least, and a block forks only blocks behind it
pub record IsRunnable (script : Script) : Type 0 where
  pub some_block : 1 ≤ node_count script
  pub tries : HasTries script
  pub forks_up : (p c : ℕ) → list_any (λ line. names_block c line.call) (lines_of script p) ≡ true → p < c
