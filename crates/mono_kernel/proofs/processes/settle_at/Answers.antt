use Rattle.number_maps.proofs.Rising.{rising-put}
use Rattle.mono_kernel.proofs.LandLemmas.{numbers-stay}
use Rattle.mono_kernel.proofs.processes.settle_at.Goals as goal

pub returns-clause-same_numbers : goal.returns-clause-same_numbers
returns-clause-same_numbers c =
    numbers-stay c.args.cells.now.entries c.pid.inside.0 c.entry_mut.result.now c.args.cell c.rise.ensures
    c.entry_mut.ensures.value

pub returns-clause-rising : goal.returns-clause-rising
returns-clause-rising c = rising-put c.args.cells.now.entries c.pid.inside.0 c.args.cell c.rise.ensures
