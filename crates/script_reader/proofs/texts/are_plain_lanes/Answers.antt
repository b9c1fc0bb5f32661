use Rattle.std.proofs.Common.{ℕ, cond, eqb, ltb, bit_or, refl}
use Rattle.std.proofs.lemmas.Bool.{eqb-true}
use Rattle.std.proofs.lemmas.Simd.{zip2_splat, zip2_splat_left, length-chunk}
use lib.Lanes.{chunk}
use Rattle.kernel_model.specs.Texts.{is_plain}
use Rattle.script_reader.proofs.Lanes.{joined, unmarked_pass}
use Rattle.script_reader.proofs.texts.are_plain_lanes.Goals as goal

abbrev below : ℕ → ℕ → ℕ
below a b = cond (ltb a b) 255 0

abbrev same : ℕ → ℕ → ℕ
same a b = cond (eqb a b) 255 0

pub returns : goal.returns
returns c none =
    let xs = c.args.bytes.now in
    let v = chunk c.args.at 16 xs in
    let long = length-chunk c.args.at 16 xs c.requires in
    unmarked_pass is_plain xs c.args.at _ c.requires c.type_inv.bytes (eqb-true _ 0 none) _
    (joined bit_or _ _ v
    (joined bit_or _ _ v
    (joined bit_or _ _ v (zip2_splat below v 16 32 long) (zip2_splat_left below 126 16 v long))
    (zip2_splat same v 16 34 long))
    (zip2_splat same v 16 92 long))
    refl
