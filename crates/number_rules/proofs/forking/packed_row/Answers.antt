use Rattle.pico_base.specs.declared.numbers.Name.TheVariants.{Proc}
use Rattle.node_serve.specs.declared.body.Body.TheVariants.{Living}
use Rattle.number_rules.proofs.Children.{packed-as-defined}
use Rattle.number_rules.proofs.forking.packed_row.Goals as goal

pub returns : goal.returns
returns c =
    packed-as-defined c.spelled_bodies_are_read.ensures (Proc c.args.pid) (Living c.args.row) c.in_ok-deed.deed
    c.in_ok-deed.ensures
