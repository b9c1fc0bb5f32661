use Rattle.std.proofs.Common.{ℤ, pos, to_z, of_z, w32, true, false, sym, ap, ◌∙◌}
use Rattle.std.specs.Prelude.{Some}
use lib.IntN.{◌-ℤ◌}
use Rattle.script_reader.proofs.OneDigit.{added_in_one, added_in, turned}
use Rattle.script_reader.proofs.texts.amount.Goals as goal

pub returns-in-len1 : goal.returns-in-len1
returns-in-len1 c =
    ap (λ z. Some (to_z w32 (of_z w32 z), false)) c.from.ensures
    ∙ added_in_one c.args.word.now c.in-len1.len_at_least c.in-len1.len_below
    (sym c.is_ascii_digit.ensures.value ∙ c.if-is_ascii_digit.true)

pub returns-then-is_nowait : goal.returns-then-is_nowait
returns-then-is_nowait c =
    ap (λ z. Some (to_z w32 (of_z w32 (pos 0 -ℤ to_z w32 (of_z w32 z))), true)) c.from-then-is_nowait.ensures
    ∙ ap (λ (z : ℤ). Some (z, true)) (turned _ c.if-digit-ge49.true c.if-digit-le57.true)
    ∙ sym (added_in c.args.word.now c.in-len3-up.len_at_least c.if-sign-eq45.true c.if-digit-ge49.true
    c.if-digit-le57.true c.if-colon-eq58.true true (sym c.if-is_nowait.true ∙ c.is_nowait.ensures))

pub returns-else-is_nowait : goal.returns-else-is_nowait
returns-else-is_nowait c =
    sym (added_in c.args.word.now c.in-len3-up.len_at_least c.if-sign-eq45.true c.if-digit-ge49.true
    c.if-digit-le57.true c.if-colon-eq58.true false (sym c.if-is_nowait.false ∙ c.is_nowait.ensures))
