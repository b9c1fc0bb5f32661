use Rattle.std.proofs.Common.{arith}
use Rattle.std.proofs.lemmas.Nat.{shr_le}
use Rattle.script_reader.proofs.Marked.{clear_below, set_there}
use Rattle.script_reader.proofs.words.next_set.Goals as goal

pub returns-clause-clear : goal.returns-clause-clear
returns-clause-clear c k low high =
    clear_below c.args.mask c.args.from k (omega (arith, c.ranges.mask.fits, shr_le c.args.mask c.args.from)) low high

pub returns-clause-set : goal.returns-clause-set
returns-clause-set c near =
    set_there c.args.mask c.args.from (omega (arith, c.ranges.mask.fits, shr_le c.args.mask c.args.from)) near
