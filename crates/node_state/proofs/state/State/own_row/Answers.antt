use Rattle.std.proofs.Common.{◌∙◌, sym}
use Rattle.pico_base.specs.declared.numbers.Name.TheVariants.{Proc}
use Rattle.node_state.proofs.Holding.{row-there}
use Rattle.node_state.proofs.state.State.own_row.Goals as goal

pub returns : goal.returns
returns c =
    c.living.ensures
    ∙ sym (row-there c.args.self.now.deeds.bodies (Proc c.args.self.now.pid) _ c.get.ensures)
