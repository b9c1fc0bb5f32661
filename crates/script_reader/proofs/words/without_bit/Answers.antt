use Rattle.std.proofs.Common.{w64}
use Rattle.std.proofs.lemmas.Nat.Bits.{bit_at_clear_same, bit_at_clear_other}
use Rattle.script_reader.proofs.words.without_bit.Goals as goal

pub returns-clause-clear : goal.returns-clause-clear
returns-clause-clear c = bit_at_clear_same w64 c.args.mask c.args.at c.requires

pub returns-clause-kept : goal.returns-clause-kept
returns-clause-kept c k low other = bit_at_clear_other w64 c.args.mask c.args.at c.requires k low other
