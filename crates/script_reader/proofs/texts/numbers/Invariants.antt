use Rattle.std.proofs.Common.{◌≡◌, ◌≤◌, ◌++◌, drop, length, vec_len, vec_capacity}
use Rattle.std.specs.Prelude.{option_map}
use Rattle.script_reader.specs.Words.{texts}
use Rattle.script_reader.specs.Parts.{each, number}
use Rattle.script_reader.proofs.texts.numbers.Given as goal

-- what the words so far give, and those that are left, with room for what these give
abbrev pub invariant-loop-word : goal.invariant-loop-word
invariant-loop-word l =
    record {
      read : option_map (λ more. l.values.items ++ more) (each (number 65535) (texts (drop l.word-index l.words)))
          ≡ each (number 65535) (texts l.words);
      len : vec_len l.values ≡ l.word-index;
      room : length l.words ≤ vec_capacity l.values;
    }
