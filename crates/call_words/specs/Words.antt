-- What a signal does and how a mask changes, in the order of their tables. `Trace` says how each is spelled.
use Rattle.std.specs.Prelude.{List, [], ◌∷◌}
use Rattle.pico_base.specs.declared.signal.Act.{Act}
use Rattle.pico_base.specs.declared.signal.Act.TheVariants.{Dfl, Ign, Catch}
use Rattle.pico_base.specs.declared.signal.How.{How}
use Rattle.pico_base.specs.declared.signal.How.TheVariants.{Block, Unblock, SetMask}

abbrev pub all_actions : List Act
all_actions = Dfl ∷ Ign ∷ Catch ∷ []

abbrev pub all_hows : List How
all_hows = Block ∷ Unblock ∷ SetMask ∷ []
