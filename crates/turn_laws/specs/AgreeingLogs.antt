-- Logs of a sound script. That each frame goes to a node of the script needn't be asked of them: the machine sends to
-- no other. And no frame comes from elsewhere, since nobody else has a log.
use Rattle.std.specs.Prelude.{◌≡◌, ℕ, ◌<◌, List, [], ◌++◌}
use Rattle.std.specs.List.{AllByRecursion}
use Rattle.pico_base.specs.declared.script.Script.{Script}
use Rattle.kernel_model.specs.Script.{IsSoundScript}
use Rattle.world_model.specs.Node.{Node, opening_node}
use Rattle.world_model.specs.World.{IsNode}
use Rattle.stamp_merge.specs.Merge.{StampsRise}
use Rattle.log_laws.specs.Logs.{AreConsistent, Input, LeadsTo, Log, Logged, Runs, StampedFrame, Takes, items_in, sent_in, taken_in}
use Rattle.log_laws.specs.Merge.{IsMerge, NodeTurn}
use Rattle.log_laws.specs.Laws.{IsRunOfTurns}

-- a frame is taken later than it was sent
abbrev pub IsSentBefore : ℕ → Input → Type 0
IsSentBefore stamp Runs = Unit {0}
IsSentBefore stamp (Takes from taken) = taken.stamp < stamp

abbrev pub IsLater : Logged → Type 0
IsLater turn = IsSentBefore turn.stamp turn.input

-- The log of each node is the machine's from the opening node on, with rising stamps, and nobody else has one. What a
-- node took from anybody, with what is still on its way, is what that one sent to it, and each frame was taken later
-- than it was sent. `last` are the nodes afterwards, and `untaken` is what is on its way, to a node from another.
pub record Agree (script : Script) (logs : ℕ → Log) (last : ℕ → Node)
    (untaken : ℕ → ℕ → List StampedFrame) : Type 0 where
  pub rise : (p : ℕ) → IsNode script p → StampsRise (items_in p (logs p))
  pub leads : (p : ℕ) → IsNode script p → LeadsTo script (opening_node p) (logs p) (last p)
  pub others : (q : ℕ) → (IsNode script q → ⊥) → logs q ≡ []
  pub streams : (p q : ℕ) → IsNode script p → taken_in q (logs p) ++ untaken p q ≡ sent_in p (logs q)
  pub later : (p : ℕ) → IsNode script p → AllByRecursion IsLater (logs p)

-- Their frames go between nodes of the script.
abbrev pub AgreeingLogsAreConsistent : Type 0
AgreeingLogsAreConsistent =
    (script : Script) (logs : ℕ → Log) (last : ℕ → Node) (untaken : ℕ → ℕ → List StampedFrame) (turns : List NodeTurn)
    → IsSoundScript script → Agree script logs last untaken → IsMerge script logs turns
    → AreConsistent script logs last untaken

-- So their merge is a run of the machine, whose nodes, frames on their way and journal are those of the logs.
abbrev pub AgreeingLogsAreRuns : Type 0
AgreeingLogsAreRuns =
    (script : Script) (logs : ℕ → Log) (last : ℕ → Node) (untaken : ℕ → ℕ → List StampedFrame) (turns : List NodeTurn)
    → IsSoundScript script → Agree script logs last untaken → IsMerge script logs turns
    → IsRunOfTurns script turns last untaken
