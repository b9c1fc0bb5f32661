use Rattle.std.proofs.Common.{◌≡◌, take}
use Rattle.std.specs.List.{list_all}
use Rattle.kernel_model.specs.Texts.{is_plain}
use Rattle.text_fields.proofs.texts.all_plain.Given as goal

-- those so far
abbrev pub invariant-loop-byte : goal.invariant-loop-byte
invariant-loop-byte l = l.all ≡ list_all is_plain (take l.byte-index l.bytes)
