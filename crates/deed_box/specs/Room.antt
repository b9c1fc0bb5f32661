-- How a node's deeds are laid out: a table for each kind, each with room for all of them, so that any deed can be put
-- back. No public clause cites this module.
use Rattle.std.specs.Prelude.{ℕ, ◌+◌, ◌-◌, length, min}
use Rattle.node_model.specs.Kinds.{Named}
use Rattle.deed_box.specs.declared.deeds.Deeds.TheInside.{Inside}

module _ {B : Type 0} where
  abbrev pub bodies_of : Inside B → Named B
  bodies_of d = record { processes = d.processes.entries; queues = d.queues.entries; sets = d.sets.entries }

  abbrev pub count_of : Inside B → ℕ
  count_of d = length d.processes.entries + length d.queues.entries + length d.sets.entries

  abbrev pub capacity_of : Inside B → ℕ
  capacity_of d = min d.processes.capacity (min d.queues.capacity d.sets.capacity)

  abbrev pub spare_of : Inside B → ℕ
  spare_of d = capacity_of d - count_of d
