-- What a run of several sandboxes comes to: for each what a run of its script alone comes to.
use Rattle.std.specs.Prelude.{◌≡◌, ℕ, List, [], ◌∷◌, map, Option}
use Rattle.std.specs.List.{flat_map, zip}
use Rattle.std.specs.Option.{option_map_or}
use Rattle.pico_base.specs.declared.script.Script.{Script}
use Rattle.world_model.specs.World.{World}
use Rattle.sandbox_set.specs.declared.read.Sandbox.{Sandbox}
use Rattle.sandbox_set.specs.Text.{boxes_text, named_trace}
use Rattle.pico_run.specs.declared.rested.Rested.{Rested}
use Rattle.boxes_run.specs.Runs.{scripts_of}
use Rattle.pico_cmd.specs.declared.answer.Answer.{Answer}
use Rattle.pico_cmd.specs.Stalled.{are_left_stalled, status_left}
use Rattle.pico_cmd.specs.Threads.{IsOneHistory, entries_in}

-- Each sandbox has one outcome, in order, which is one history of its script alone.
abbrev pub AreHistories : List Script → List Rested → Type 0
AreHistories [] [] = Unit {0}
AreHistories [] (r ∷ rs) = ⊥
AreHistories (script ∷ scripts) [] = ⊥
AreHistories (script ∷ scripts) (r ∷ rs) = IsOneHistory script r × AreHistories scripts rs

-- the text of the runs whose outcomes are handed back: for each sandbox its line `sandbox NAME`, and its trace
pub record IsTextOfBoxes (boxes : List Sandbox) (text : List ℕ) (rested : List Rested) : Type 0 where
  pub histories : AreHistories (scripts_of boxes) rested
  pub is_text : text ≡ boxes_text boxes (map entries_in rested)

-- the outcomes are handed back, and their text is that of the answer
pub record AnswersBoxes (boxes : List Sandbox) (a : Answer) : Type 0 where
  pub status_is : a.status ≡ status_left (are_left_stalled a.rested)
  pub run : IsTextOfBoxes boxes a.text a.rested

-- ---- the same, as it is told of worlds

-- a name, and the trace of a world's journal
abbrev pub world_text : List ℕ → Option World → List ℕ
world_text name world = option_map_or (λ (w : World). named_trace name w.script w.journal) world []

unfoldable pub worlds_text : List (List ℕ) → List Rested → List ℕ
worlds_text names rested = flat_map (λ (one : List ℕ × Rested). world_text one.0 one.1.world) (zip names rested)
