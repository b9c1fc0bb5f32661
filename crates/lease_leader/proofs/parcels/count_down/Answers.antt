use Rattle.std.proofs.Common.{◌-◌, None, Some, arith}
use Rattle.indexmap.specs.IndexMap.{Updates}
use Rattle.pico_base.specs.contracts.numbers.NamePartialEq.TheImpl.{eq-value}
use Rattle.lease_leader.proofs.Tables.{counted-down, never-refused}
use Rattle.lease_leader.proofs.parcels.count_down.Goals as goal

pub unwrap-requires : goal.unwrap-requires
unwrap-requires c =
    never-refused c.insert.result c.args.counts.now.entries c.args.name.now c.insert.ensures.absent c.requires

pub returns-then-count-eq1 : goal.returns-then-count-eq1
returns-then-count-eq1 c =
    counted-down c.args.counts.now.entries c.swap_remove.new.self.entries c.args.name.now None
    c.swap_remove.ensures.updates.0
    (omega (arith, c.if-count-eq1.true, c.count_of-count.ensures))

pub returns-else-count-eq1 : goal.returns-else-count-eq1
returns-else-count-eq1 c =
    let updates : Updates eq-value.it c.args.counts.now c.insert.new.self c.args.name.now
    (Some (c.count_of-count.result - 1)) = rw c.unwrap.ensures at c.insert.ensures.updates in
    counted-down c.args.counts.now.entries c.insert.new.self.entries c.args.name.now _ updates.0
    (omega (arith, c.requires, c.count_of-count.ensures))
