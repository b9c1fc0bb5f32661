use Rattle.std.proofs.Common.{Option, sym, subst, ◌∙◌}
use Rattle.world_model.specs.Step.{Step}
use Rattle.node_core.specs.declared.turn.Input.TheVariants as inputs
use Rattle.node_core.specs.Step.{Follows}
use Rattle.node_core.proofs.Turned.{step_of-take, turned_as}
use Rattle.node_core.proofs.node.PicoNode.take_onto.Goals as goal

pub returns : goal.returns
returns c =
    turned_as c.args.script.now c.args.self.now c.settle.new.self c.in-Some.node c.take_behind-turned.new.self
    (inputs.Take c.args.from c.args.frame)
    c.args.made.now c.take_behind-turned.new.made c.take_behind-turned.result c.settle.result
    (sym c.self.view_is ∙ c.in-Some.is)
    (subst (λ (step : Option Step). Follows step c.in-Some.node c.take_behind-turned.new.self c.args.made.now
    c.take_behind-turned.new.made c.take_behind-turned.result)
    (sym (step_of-take c.args.script.now c.in-Some.node c.args.from c.args.frame))
    c.take_behind-turned.ensures)
    c.settle.ensures.same c.settle.ensures.memory c.settle.ensures.left
