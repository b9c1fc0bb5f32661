use Rattle.std.proofs.Common.{◌≡◌, ◌||◌, refl, sym, ◌∙◌}
use Rattle.world_model.specs.Node.{is_born}
use Rattle.world_model.specs.World.{is_checkpoint}
use Rattle.node_log.proofs.Places.{lines-same}
use Rattle.node_log.proofs.Rules.{rule-take, no_rule-take, at_node, node-there}
use Rattle.node_log.proofs.Sent.{made_ok-along, unmade-along, unmade-here, full-along}
use Rattle.node_log.proofs.works.Works.take.Goals as goal

pub returns-then-not-may_take-clause-same : goal.returns-then-not-may_take-clause-same
returns-then-not-may_take-clause-same g c = record { number = refl; seat = (refl, refl); lines = lines-same _ }

pub returns-then-not-may_take-clause-bad : goal.returns-then-not-may_take-clause-bad
returns-then-not-may_take-clause-bad g c = λ e.
    let frame = c.args.frame in
    let n = node-there c.args.self.now.node c.requires.whole in
    let test = at_node (λ n. c.may_take.result ≡ is_born n || is_checkpoint frame) _ n.0 n.1 c.may_take.ensures in
    unmade-here _ c.args.self.now n.0 n.1
    (no_rule-take c.args.script.now c.args.self.now.lines.items n.0 c.args.from c.args.stamp frame
    (sym test ∙ c.if-not-may_take.true))

pub returns-clause-ok : goal.returns-clause-ok
returns-clause-ok g c =
    let frame = c.args.frame in
    made_ok-along _ _ _ _ _ _ _
    (λ n here. rule-take c.args.script.now c.args.self.now.lines.items n c.args.from c.args.stamp frame
    (sym (at_node (λ n. c.may_take.result ≡ is_born n || is_checkpoint frame) _ n here c.may_take.ensures)
    ∙ c.if-not-may_take.false))
    (rw c.max-floor.ensures at c.make.ensures.ok)

pub returns-clause-bad : goal.returns-clause-bad
returns-clause-bad g c = λ e.
    let frame = c.args.frame in
    unmade-along _ _ _ _
    (λ n here. rule-take c.args.script.now c.args.self.now.lines.items n c.args.from c.args.stamp frame
    (sym (at_node (λ n. c.may_take.result ≡ is_born n || is_checkpoint frame) _ n here c.may_take.ensures)
    ∙ c.if-not-may_take.false))
    (c.make.ensures.bad e)

pub returns-clause-end : goal.returns-clause-end
returns-clause-end g c = λ last e.
    let frame = c.args.frame in
    full-along _ _ _ _ _ _
    (λ n here. rule-take c.args.script.now c.args.self.now.lines.items n c.args.from c.args.stamp frame
    (sym (at_node (λ n. c.may_take.result ≡ is_born n || is_checkpoint frame) _ n here c.may_take.ensures)
    ∙ c.if-not-may_take.false))
    (rw c.max-floor.ensures at (c.make.ensures.end last e))
