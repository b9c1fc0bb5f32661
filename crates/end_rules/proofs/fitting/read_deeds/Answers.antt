use Rattle.std.proofs.Common.{◌∙◌, ◌+◌, drop, ap, sym}
use Rattle.std.specs.Option.{option_map}
use Rattle.node_serve.specs.Bodies.{numbered_of}
use Rattle.end_rules.specs.Fitting.{numbered}
use Rattle.end_rules.proofs.Read.{read_behind, step-read}
use Rattle.end_rules.proofs.fitting.read_deeds.Goals as goal

pub loop-deed-preserved : goal.loop-deed-preserved
loop-deed-preserved c =
    c.loop-deed.invariant
    ∙ step-read c.loop-deed.bodies.items c.args.deeds.now c.loop-deed.deed-index c.deed-item.result c.in-Some.body
    c.loop-deed-test.true c.deed-item.is (ap (option_map numbered) (sym c.in-Some.is) ∙ c.in_ok-body.ensures)
    ∙ ap (λ bodies. read_behind (numbered_of bodies) (drop (c.loop-deed.deed-index + 1) c.args.deeds.now))
    (sym c.in_ok-push-in-Some.ensures.items)
