use Rattle.std.proofs.Common.{List, [], ◌∷◌, true, refl}
use Rattle.pico_base.specs.declared.numbers.Name.{Name}
use Rattle.deed_box.specs.Deeds.{all_deeds}
use Rattle.deed_box.specs.Packing.{AllFit}
use Rattle.serve_tests.proofs.tests.handovers.give_tallies.Goals as goal

-- a tally goes with any name
all-fit : {B : Type 0} (deeds : List (Name × B)) → AllFit (λ tally name. true) deeds
all-fit [] = tt
all-fit (deed ∷ deeds) = (refl, all-fit deeds)

pub give_all-requires : goal.give_all-requires
give_all-requires c = all-fit (all_deeds c.args.deeds.now.bodies)
