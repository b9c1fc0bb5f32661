use Rattle.std.proofs.Common.{◌≡◌, true, rules}
use Rattle.sysv_sem.specs.Reading.{is_good_count}
use Rattle.sysv_sem.proofs.Passing.{row-there}
use Rattle.sysv_sem.proofs.unpack.behind_row.Goals as goal

pub returns : goal.returns
returns c =
    let good : is_good_count c.in_ok-count.count ≡ true = search rules in
    row-there c.args.bytes.now c.in_ok-count.rest.now c.in_ok-behind.behind.now c.in_ok-count.count
    c.in_ok-count.ensures good c.in_ok-behind.ensures
