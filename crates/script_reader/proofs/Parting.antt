-- A loop that parts a line into its words.
use Rattle.std.proofs.Common.{◌≡◌, ℕ, List, ◌++◌, ◌≤◌, drop, length}
use denote.Ref.{Bor}
use Rattle.script_reader.specs.Words.{words_of, texts}

-- the words so far, and those that are left from a place on
abbrev pub IsParted : List ℕ → List (Bor (List ℕ)) → ℕ → Type 0
IsParted line words at =
    record {
      words : texts words ++ words_of (drop at line) ≡ words_of line;
      within : at ≤ length line;
    }
