use Rattle.std.proofs.Common.{◌≡◌, ◌≤◌, drop}
use Rattle.script_reader.specs.Parts.{digits}
use Rattle.script_reader.proofs.numbers.digits.Given as goal

-- the digits left, behind those so far
abbrev pub invariant-loop-byte : goal.invariant-loop-byte
invariant-loop-byte l =
    (digits l.limit l.value (drop l.byte-index l.word) ≡ digits l.limit 0 l.word) × (l.value ≤ l.limit)
