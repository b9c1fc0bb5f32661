-- The lines with which the program refuses.
use Rattle.std.specs.Prelude.{Bool, ℕ, List, ◌||◌, length, take, codes, bytes_eq}

-- whether bytes begin with others
abbrev pub begins_with : List ℕ → List ℕ → Bool
begins_with front bytes = bytes_eq (take (length front) bytes) front

-- whether a line refuses a script, a trace or the words
unfoldable pub is_refusal : List ℕ → Bool
is_refusal line =
    begins_with (codes "fault: line ") line
    || (begins_with (codes "not legal: ") line || begins_with (codes "usage: ") line)
