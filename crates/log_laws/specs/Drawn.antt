-- Where stamps come from, and how high they are.
use Rattle.std.specs.Prelude.{◌≡◌, ◌⊎◌, ℕ, ◌+◌, ◌≤◌, List, [], ◌∷◌, length}
use Rattle.std.specs.List.{AllByRecursion, Contains}
use Rattle.pico_base.specs.declared.script.Script.{Script}
use Rattle.world_model.specs.World.{IsNode}
use Rattle.log_laws.specs.Logs.{Logged, Log}
use Rattle.log_laws.specs.Merge.{NodeTurn, IsMerge}

-- a turn of some node of the script has this stamp
pub record IsStampOfTurn (script : Script) (logs : ℕ → Log) (stamp : ℕ) : Type 0 where
  pub node : ℕ
  pub turn : Logged
  pub is_node : IsNode script node
  pub logged : Contains (logs node) turn
  pub stamped : turn.stamp ≡ stamp

-- what a node knows of: no stamp yet, or that of a turn
abbrev pub IsKnownStamp : Script → (ℕ → Log) → ℕ → Type 0
IsKnownStamp script logs stamp = (stamp ≡ 0) ⊎ IsStampOfTurn script logs stamp

-- the turn's stamp is the next one to a stamp that is known
pub record IsDrawnFrom (script : Script) (logs : ℕ → Log) (turn : Logged) : Type 0 where
  pub known : ℕ
  pub is_known : IsKnownStamp script logs known
  pub next : turn.stamp ≡ known + 1

abbrev pub AreDrawn : Script → (ℕ → Log) → Type 0
AreDrawn script logs = (p : ℕ) → IsNode script p → AllByRecursion (IsDrawnFrom script logs) (logs p)

-- each turn's stamp is at most the turn's place, where the first turn stands at this place
abbrev pub AreAtMostPlaces : ℕ → List NodeTurn → Type 0
AreAtMostPlaces place [] = Unit {0}
AreAtMostPlaces place (t ∷ turns) = (t.turn.stamp ≤ place) × AreAtMostPlaces (place + 1) turns

-- In the merge the stamp of the turn at place i, from 1, is at most i; so no stamp is above the number of turns,
-- neither in the merge nor in a node's log.
pub record HasFewStamps (script : Script) (logs : ℕ → Log) (turns : List NodeTurn) : Type 0 where
  pub places : AreAtMostPlaces 1 turns
  pub merged : AllByRecursion (λ t. t.turn.stamp ≤ length turns) turns
  pub logged : (p : ℕ) → IsNode script p → AllByRecursion (λ turn. turn.stamp ≤ length turns) (logs p)

-- There are as few stamps as turns, where each stamp is the next one to a stamp that is known.
abbrev pub StampsAreFew : Type 0
StampsAreFew =
    (script : Script) (logs : ℕ → Log) (turns : List NodeTurn) → IsMerge script logs turns → AreDrawn script logs
    → HasFewStamps script logs turns
