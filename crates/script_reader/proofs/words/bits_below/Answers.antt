use Rattle.std.proofs.Common.{◌-◌, ap, ◌∙◌, arith, pow_pos, bit_and}
use Rattle.std.specs.Int.{bit_at}
use Rattle.script_reader.proofs.Marked.{shl_one, low_kept, low_only}
use Rattle.script_reader.proofs.words.bits_below.Goals as goal

pub overflow_sub-result : goal.overflow_sub-result
overflow_sub-result c = omega (arith, shl_one c.args.count c.requires, pow_pos c.args.count)

pub returns-clause-kept : goal.returns-clause-kept
returns-clause-kept c k low =
    ap (λ x. bit_at (bit_and c.args.mask (x - 1)) k) (shl_one c.args.count c.requires)
    ∙ low_kept c.args.mask c.args.count k low

pub returns-clause-over : goal.returns-clause-over
returns-clause-over c k high =
    ap (λ x. bit_at (bit_and c.args.mask (x - 1)) k) (shl_one c.args.count c.requires)
    ∙ low_only c.args.mask c.args.count k high
