use Rattle.std.proofs.Common.{◌≡◌, ◌≤◌, length}
use Rattle.text_fields.specs.Fields.{digits_front}
use Rattle.text_fields.proofs.numbers.digits.Given as goal

-- the digits left, behind those so far
abbrev pub invariant-loop-next : goal.invariant-loop-next
invariant-loop-next l =
    (digits_front l.limit l.value l.rest ≡ digits_front l.limit l.fn.start l.fn.bytes) × (l.value ≤ l.limit)

abbrev pub decreases-loop-next : goal.decreases-loop-next
decreases-loop-next l = length l.rest
