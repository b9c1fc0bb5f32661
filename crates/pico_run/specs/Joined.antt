-- What the threads leave, once it is put together.
use Rattle.std.specs.Prelude.{◌≡◌, ℕ, ◌≤◌, List, ◌++◌, map, None}
use Rattle.pico_base.specs.declared.script.Script.{Script}
use Rattle.stream_pair.specs.declared.piece.Piece.{Piece}
use Rattle.journal_core.specs.declared.stamped.Stamped.{Stamped}
use Rattle.world_model.specs.World.{IsNode, numbers, node_count}
use Rattle.log_model.specs.Views.{LoggedNode, Parting}
use Rattle.node_lines.specs.declared.end.End.{End}
use Rattle.node_log.specs.Ends.{end_of}
use Rattle.thread_laws.specs.Joined.{AreJoined}
use Rattle.pico_run.specs.Grid.{IsMesh, AreTwins, wire_of}
use Rattle.pico_run.specs.Turning.{quiet_turns}

-- ---- what is left of the nodes

abbrev pub parting_of : LoggedNode → Parting
parting_of l = record { node = l.number; quiet = l.quiet; log = l.log }

abbrev pub ends_of : LoggedNode → List End
ends_of l = map end_of l.lines

-- ---- both ends of each stream

abbrev pub end_other : End → ℕ
end_other end = end.other

abbrev pub AreTwinEnds : End → End → Type 0
AreTwinEnds mine theirs = AreTwins (wire_of mine) (wire_of theirs)

-- on both streams between them, what was sent is what was taken, and a rest
pub record AreSettled (mine theirs : End) : Type 0 where
  pub there : List Piece
  pub there_is : mine.out.sent ≡ theirs.into.taken ++ there
  pub back : List Piece
  pub back_is : theirs.out.sent ≡ mine.into.taken ++ back

-- rows of ends of so many nodes, each of which has both streams with each other
abbrev pub AreTwinRows : ℕ → List (List End) → Type 0
AreTwinRows count rows = IsMesh end_other AreTwinEnds count rows

abbrev pub AreSettledRows : ℕ → List (List End) → Type 0
AreSettledRows count rows = IsMesh end_other AreSettled count rows

-- ---- all of it

-- The seats' journal, and what each node's turns came to, which was quiet unless it met a fault.
pub record IsThreaded (script : Script) (journal : List Stamped) (partings : List Parting) : Type 0 where
  pub nodes : ℕ → LoggedNode
  pub joined : AreJoined script nodes journal
  pub partings_are : partings ≡ map (λ p. parting_of (nodes p)) (numbers 1 (node_count script))
  pub quiet : (p : ℕ) → IsNode script p → (nodes p).fault ≡ None → quiet_turns ≤ (nodes p).quiet
