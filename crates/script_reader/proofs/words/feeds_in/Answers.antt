use Rattle.std.proofs.Common.{ℕ, cond, eqb, refl, arith}
use Rattle.std.proofs.lemmas.Simd.{zip2_splat, length-chunk}
use lib.Lanes.{chunk}
use Rattle.script_reader.proofs.Marked.{marks_of_lanes}
use Rattle.script_reader.proofs.words.feeds_in.Goals as goal

abbrev same : ℕ → ℕ → ℕ
same a b = cond (eqb a b) 255 0

pub returns : goal.returns
returns c =
    let xs = c.args.text.now in
    marks_of_lanes 64 (λ b. eqb b 10) xs _ (omega arith) c.requires c.type_inv.text _
    (zip2_splat same (chunk 0 64 xs) 64 10 (length-chunk 0 64 xs c.requires)) refl
