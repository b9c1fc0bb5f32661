use Rattle.std.proofs.Common.{◌≡◌, ◌-◌, ◌++◌, length}
use Rattle.std.specs.Prelude.{option_map}
use Rattle.script_reader.specs.Parts.{quoted_at}
use Rattle.script_reader.proofs.texts.escaped_text.Given as goal

-- the bytes so far, and the text that is left
abbrev pub invariant-loop : goal.invariant-loop
invariant-loop l = option_map (λ more. l.text ++ more) (quoted_at (l.end - l.counter) l.rest)
    ≡ quoted_at (length l.fn.bytes) l.fn.bytes
