-- What is left of nodes that have made their last turns.
use Rattle.std.specs.Prelude.{◌≡◌, List, map}
use Rattle.log_model.specs.Views.{LoggedNode}
use Rattle.pico_run.specs.declared.joining.Parts.{Parts}
use Rattle.pico_run.specs.Joined.{ends_of, parting_of}

pub record IsLeft (nodes : List LoggedNode) (parts : Parts) : Type 0 where
  pub partings : parts.partings.items ≡ map parting_of nodes
  pub seats : parts.seats ≡ map (λ l. l.seat) nodes
  pub rows : parts.rows.items ≡ map ends_of nodes
