use Rattle.std.proofs.Common.{◌≡◌, ◌++◌, ◌≤◌, ◌-◌, drop, length, vec_len, vec_capacity}
use Rattle.script_reader.specs.Words.{words_of, texts, EdgesFrom}
use Rattle.script_reader.proofs.words.put_marked_words.Given as goal

-- the words so far, and those that are left; no word is empty, so there are no more than bytes
abbrev pub invariant-loop-start : goal.invariant-loop-start
invariant-loop-start l =
    record {
      words : texts l.words.items ++ words_of (drop l.at l.fn.line) ≡ words_of l.fn.line;
      within : l.at ≤ length l.fn.line;
      few : vec_len l.words ≤ l.at;
      room : 64 ≤ vec_capacity l.words;
      edges : EdgesFrom l.fn.stops.solids l.edges l.at;
    }

abbrev pub decreases-loop-start : goal.decreases-loop-start
decreases-loop-start l = length l.fn.line - l.at
