use Rattle.std.proofs.Common.{ℕ, cond, eqb, bit_or, refl, arith}
use Rattle.std.proofs.lemmas.Simd.{zip2_splat, length-chunk}
use lib.Lanes.{chunk}
use Rattle.script_reader.specs.Words.{is_blank}
use Rattle.script_reader.proofs.Lanes.{joined}
use Rattle.script_reader.proofs.Marked.{marks_of_lanes}
use Rattle.script_reader.proofs.words.blanks_in.Goals as goal

abbrev same : ℕ → ℕ → ℕ
same a b = cond (eqb a b) 255 0

pub returns : goal.returns
returns c =
    let xs = c.args.text.now in
    let v = chunk 0 64 xs in
    let long = length-chunk 0 64 xs c.requires in
    marks_of_lanes 64 is_blank xs _ (omega arith) c.requires c.type_inv.text _
    (joined bit_or _ _ v
    (joined bit_or _ _ v (zip2_splat same v 64 32 long) (zip2_splat same v 64 9 long))
    (zip2_splat same v 64 13 long))
    refl
