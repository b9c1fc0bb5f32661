use Rattle.std.proofs.Common.{◌∙◌, ap}
use Rattle.node_model.specs.Kinds.{Named, get_named, without_named}
use Rattle.node_serve.specs.declared.body.Body.{Body}
use Rattle.node_state.proofs.Holding.{taken-absent, taken-by-name}
use Rattle.node_state.proofs.state.take_packed.Goals as goal

pub pack-requires-clause-absent : goal.pack-requires-clause-absent
pack-requires-clause-absent c =
    let held = c.args.deeds.now.bodies in
    ap (λ (m : Named Body). get_named m c.in-Some.deed.0) c.take.ensures.bodies
    ∙ ap (get_named (without_named held c.args.name.now))
    (taken-by-name c.args.name.now (get_named held c.args.name.now) c.in-Some.deed c.in-Some.ensures.deed)
    ∙ taken-absent held c.args.name.now
