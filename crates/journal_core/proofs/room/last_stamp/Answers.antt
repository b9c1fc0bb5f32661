use Rattle.std.proofs.Common.{◌-◌, length, arith, sym}
use Rattle.journal_core.proofs.Appending.{stamp_of_last}
use Rattle.journal_core.proofs.room.last_stamp.Goals as goal

pub returns-in-Some : goal.returns-in-Some
returns-in-Some c =
    let journal = c.args.journal.now in
    let some = c.in-Some.ensures.item.3.0 in
    stamp_of_last 0 journal (length journal - 1) c.in-Some.line.now (omega arith) (sym c.in-Some.ensures.value)
