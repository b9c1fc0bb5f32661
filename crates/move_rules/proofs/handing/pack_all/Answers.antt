use Rattle.std.proofs.Common.{◌∙◌, sym}
use Rattle.node_serve.proofs.KernelLemmas.{if-ok}
use Rattle.move_rules.proofs.Packed.{all-fit, hands-all-over}
use Rattle.move_rules.proofs.handing.pack_all.Goals as goal

pub give_all-requires : goal.give_all-requires
give_all-requires c = all-fit c.args.node.now.deeds.bodies (sym c.suits_all.ensures ∙ c.if-not-suits_all.false)

pub returns-clause-frames : goal.returns-clause-frames
returns-clause-frames c =
    if-ok _ _ c.give_all.result
    (hands-all-over c.args.node.now.deeds.bodies c.args.node.now.pid c.args.node.now.parent c.args.call)
    c.give_all.ensures.given
