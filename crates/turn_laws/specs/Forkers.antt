-- Which node forks another: the only one that a node which isn't born takes a frame from.
use Rattle.std.specs.Prelude.{◌≡◌, ◌≤◌, ℕ, true}
use Rattle.pico_base.specs.declared.script.Script.{Script}
use Rattle.kernel_model.specs.Script.{IsSoundScript}
use Rattle.world_model.specs.Lives.{is_forked_by}
use Rattle.world_model.specs.World.{IsNode}
use Rattle.world_laws.specs.Names.{forker}

-- the first node whose block forks this one's, 0 where none does
abbrev pub forker_of : Script → ℕ → ℕ
forker_of script p = forker script p

-- a node of the script, whose block forks that of node p
pub record Forks (script : Script) (q p : ℕ) : Type 0 where
  pub node : IsNode script q
  pub forks : is_forked_by script q p ≡ true

-- Where there is one, it is a node and forks the other.
abbrev pub ForkersFork : Type 0
ForkersFork = (script : Script) (q p : ℕ) → forker_of script p ≡ q → 1 ≤ q → Forks script q p

-- In a sound script no other does.
abbrev pub OneForks : Type 0
OneForks = (script : Script) (q p : ℕ) → IsSoundScript script → Forks script q p → forker_of script p ≡ q
