-- Where a deed stands among those of its kind. No public clause cites this module.
use Rattle.std.specs.Prelude.{ℕ}
use Rattle.pico_base.specs.declared.numbers.Name.{Name}
use Rattle.pico_base.specs.declared.numbers.Name.TheVariants.{Proc, Msg, Sem}
use Rattle.node_model.specs.Kinds.{Named}
use Rattle.number_table.specs.Placing.{StandsAt}

-- the name's entry stands at this place of its kind's table
abbrev pub StandsNamed : {B : Type 0} → Named B → Name → ℕ → Type 0
StandsNamed bodies (Proc pid) place = StandsAt bodies.processes pid place
StandsNamed bodies (Msg id) place = StandsAt bodies.queues id place
StandsNamed bodies (Sem id) place = StandsAt bodies.sets id place
