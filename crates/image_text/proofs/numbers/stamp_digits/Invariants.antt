use Rattle.std.proofs.Common.{◌≡◌, ◌≤◌, length}
use Rattle.text_fields.specs.Fields.{digits_front}
use Rattle.image_text.proofs.numbers.stamp_digits.Given as goal

-- the digits left, behind those so far
abbrev pub invariant-loop-next : goal.invariant-loop-next
invariant-loop-next l =
    (digits_front 9223372036854775807 l.value l.rest ≡ digits_front 9223372036854775807 l.fn.start l.fn.bytes)
    × (l.value ≤ 9223372036854775807)

abbrev pub decreases-loop-next : goal.decreases-loop-next
decreases-loop-next l = length l.rest
