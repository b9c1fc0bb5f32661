use Rattle.std.proofs.Common.{ℤ, SFits, w32, ◌<◌, ◌^◌, ◌∙◌, rules}
use Rattle.std.proofs.lemmas.Int.{to_z-of_z}
use Rattle.index_links.proofs.Classes.{bits_high, bits_low}
use Rattle.index_links.proofs.keys.class_of.Goals as goal

pub returns-then-key-lt-HALF : goal.returns-then-key-lt-HALF
returns-then-key-lt-HALF c =
    let class : ℤ = c.cast_signed.result in
    let fits : SFits w32 class = search rules in
    to_z-of_z w32 class fits ∙ (c.cast_signed.ensures ∙ bits_low c.args.key c.if-key-lt-HALF.true)

pub returns-else-key-lt-HALF : goal.returns-else-key-lt-HALF
returns-else-key-lt-HALF c =
    let below : c.args.key < 2 ^ 32 = search rules in
    let class : ℤ = c.cast_signed-else-key-lt-HALF.result in
    let fits : SFits w32 class = search rules in
    to_z-of_z w32 class fits
    ∙ (c.cast_signed-else-key-lt-HALF.ensures ∙ bits_high c.args.key c.if-key-lt-HALF.false below)
