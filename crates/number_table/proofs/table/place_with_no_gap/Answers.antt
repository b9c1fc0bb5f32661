use Rattle.number_table.proofs.Guesses.{stands_there}
use Rattle.number_table.proofs.table.place_with_no_gap.Goals as goal

pub returns-then-branch-number : goal.returns-then-branch-number
returns-then-branch-number g c =
    let there = c.in_ok-get.ensures.lookup.3 in
    stands_there c.args.entries.now c.args.number c.in_ok-place.field-0 c.in_ok-get.field-0.now c.requires there.0
    there.1 c.if-branch-number.true
