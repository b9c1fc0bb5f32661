use Rattle.std.proofs.Common.{◌≡◌}
use Rattle.std.proofs.lemmas.Int.{to_z-of_z}
use Rattle.std.specs.Int.{w32, cast_unsigned}
use Rattle.index_links.proofs.Classes.{key_high, key_low}
use Rattle.index_links.proofs.keys.key_of.Goals as goal

pub returns-then-bits-lt-HALF : goal.returns-then-bits-lt-HALF
returns-then-bits-lt-HALF c =
    let fits = c.ranges.class in
    let is : c.cast_unsigned-bits.result ≡ cast_unsigned w32 c.args.class =
    simp to_z-of_z at c.cast_unsigned-bits.ensures in
    key_low c.args.class c.cast_unsigned-bits.result fits is c.if-bits-lt-HALF.true

pub returns-else-bits-lt-HALF : goal.returns-else-bits-lt-HALF
returns-else-bits-lt-HALF c =
    let fits = c.ranges.class in
    let is : c.cast_unsigned-bits.result ≡ cast_unsigned w32 c.args.class =
    simp to_z-of_z at c.cast_unsigned-bits.ensures in
    key_high c.args.class c.cast_unsigned-bits.result fits is c.if-bits-lt-HALF.false
