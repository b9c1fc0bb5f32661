use Rattle.std.proofs.Common.{ℕ, ◌+◌, Some, ap}
use Rattle.indexmap.specs.IndexMap.{Updates}
use Rattle.pico_base.specs.contracts.numbers.NamePartialEq.TheImpl.{eq-value}
use Rattle.lease_leader.proofs.Tables.{counted-up}
use Rattle.lease_leader.proofs.parcels.count_up.Goals as goal

pub returns-clause-counts : goal.returns-clause-counts
returns-clause-counts c =
    let updates : Updates eq-value.it c.args.counts.now c.insert.new.self c.args.name.now
    (Some (c.count_of-count.result + 1)) = rw c.unwrap.ensures at c.insert.ensures.updates in
    counted-up c.args.counts.now.entries c.insert.new.self.entries c.args.name.now _ updates.0
    (ap (λ (n : ℕ). Some (n + 1)) c.count_of-count.ensures)
