use Rattle.number_maps.proofs.Rising.{rising-put}
use Rattle.mono_kernel.proofs.LandLemmas.{change-lands, numbers-stay}
use Rattle.mono_kernel.proofs.processes.change_at.Goals as goal

pub returns-in-Some : goal.returns-in-Some
returns-in-Some c = record {
  changed = change-lands c.args.cells.now.entries c.pid.inside.0 c.args.pid c.args.change
      c.value_mut.result.now c.change.new.self c.pid.view_is c.value_mut.ensures.value c.change.ensures;
  same_numbers = numbers-stay c.args.cells.now.entries c.pid.inside.0 c.value_mut.result.now c.change.new.self
      c.rise.ensures c.value_mut.ensures.value;
  rising = rising-put c.args.cells.now.entries c.pid.inside.0 c.change.new.self c.rise.ensures;
}
