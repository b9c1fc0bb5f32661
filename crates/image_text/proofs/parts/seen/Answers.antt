use Rattle.std.proofs.Common.{◌≡◌, sym, arith}
use Rattle.std.proofs.lemmas.List.{take_all, length-take-le}
use Rattle.image_text.specs.Parts.{seen}
use Rattle.image_text.proofs.parts.seen.Goals as goal

pub returns-then-image-gt-MAX_IMAGE-clause-small : goal.returns-then-image-gt-MAX_IMAGE-clause-small
returns-then-image-gt-MAX_IMAGE-clause-small c =
    let e = length-take-le 16777217 c.args.image.now (omega arith) in omega (arith, e)

pub returns-else-image-gt-MAX_IMAGE-clause-value : goal.returns-else-image-gt-MAX_IMAGE-clause-value
unfolding seen
returns-else-image-gt-MAX_IMAGE-clause-value c = sym (take_all 16777217 c.args.image.now (omega arith))
