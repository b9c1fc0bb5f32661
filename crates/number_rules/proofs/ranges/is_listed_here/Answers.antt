use Rattle.std.proofs.Common.{◌∙◌, ap}
use Rattle.std.specs.List.{list_any}
use Rattle.number_maps.specs.Maps.{Numbered}
use Rattle.node_serve.specs.declared.body.Body.{Body}
use Rattle.node_serve.specs.Bodies.{body_of}
use Rattle.world_model.specs.Ranges.{lists_child}
use Rattle.number_rules.proofs.Listed.{any-mapped}
use Rattle.number_rules.proofs.ranges.is_listed_here.Goals as goal

pub returns-in-Proc : goal.returns-in-Proc
returns-in-Proc c =
    rw c.in-Proc.is
    (c.any_lists.ensures
    ∙ ap
    (λ (processes : Numbered Body). list_any (λ p. lists_child c.args.number (p.0, body_of p.1)) processes)
    c.processes.ensures
    ∙ any-mapped (lists_child c.args.number) (λ p. (p.0, body_of p.1)) c.args.node.now.deeds.bodies.processes)
