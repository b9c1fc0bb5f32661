use Rattle.std.proofs.Common.{◌≡◌, take}
use Rattle.std.specs.List.{list_all}
use Rattle.text_fields.specs.Fields.{is_digit}
use Rattle.image_text.proofs.numbers.are_digits.Given as goal

-- those so far
abbrev pub invariant-loop-byte : goal.invariant-loop-byte
invariant-loop-byte l = l.all ≡ list_all is_digit (take l.byte-index l.bytes)
