-- What all sandboxes have that are read.
use Rattle.std.specs.Prelude.{◌≡◌, ℕ, ◌<◌, ◌≤◌, Bool, true, false, not, ◌&&◌, List, [], ◌∷◌, length, sum_by, IsTrue}
use Rattle.std.specs.List.{All, list_all}
use Rattle.kernel_model.specs.Script.{IsSoundScript, is_name}
use Rattle.sandbox_set.specs.declared.read.Sandbox.{Sandbox as Box}
use Rattle.sandbox_set.specs.Boxes.{has_name}

-- each has a name of its own
abbrev pub names_differ : List Box → Bool
names_differ [] = true
names_differ (b ∷ boxes) = not (has_name b.name boxes) && names_differ boxes

-- how many blocks they have in all
abbrev pub blocks_in : List Box → ℕ
blocks_in boxes = sum_by (λ (b : Box). length b.script.blocks) boxes

-- sandboxes with at most so many blocks in all
pub record AreSound (most : ℕ) (boxes : List Box) : Type 0 where
  pub few : length boxes ≤ 8
  pub names : IsTrue (list_all (λ (b : Box). is_name b.name) boxes)
  pub names_apart : IsTrue (names_differ boxes)
  pub scripts : All (λ (b : Box). IsSoundScript b.script) boxes
  pub nodes : blocks_in boxes ≤ most

-- a name for one sandbox more
pub record IsFresh (name : List ℕ) (boxes : List Box) : Type 0 where
  pub named : is_name name ≡ true
  pub new : has_name name boxes ≡ false
  pub room : length boxes < 8
