use Rattle.std.proofs.Common.{arith, w64}
use Rattle.std.proofs.lemmas.Nat.Bits.{bit_at_set_same, bit_at_set_other}
use Rattle.script_reader.proofs.words.with_bit.Goals as goal

pub returns-clause-set : goal.returns-clause-set
returns-clause-set c = bit_at_set_same w64 c.args.mask c.args.at c.requires

pub returns-clause-kept : goal.returns-clause-kept
returns-clause-kept c k low = bit_at_set_other w64 c.args.mask c.args.at c.requires k (λ e. omega (arith, e, low))
