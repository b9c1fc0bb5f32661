use Rattle.node_log.proofs.Rules.{rule-run, at_node}
use Rattle.node_log.proofs.Sent.{made_ok-along, unmade-along, full-along}
use Rattle.node_log.proofs.works.Works.run.Goals as goal

pub returns-clause-ok : goal.returns-clause-ok
returns-clause-ok g c =
    made_ok-along _ _ _ _ _ _ _
    (λ n here. rule-run c.args.script.now c.args.self.now.lines.items n (at_node _ _ n here c.requires.can))
    c.make.ensures.ok

pub returns-clause-bad : goal.returns-clause-bad
returns-clause-bad g c = λ e.
    unmade-along _ _ _ _
    (λ n here. rule-run c.args.script.now c.args.self.now.lines.items n (at_node _ _ n here c.requires.can))
    (c.make.ensures.bad e)

pub returns-clause-end : goal.returns-clause-end
returns-clause-end g c = λ last e.
    full-along _ _ _ _ _ _
    (λ n here. rule-run c.args.script.now c.args.self.now.lines.items n (at_node _ _ n here c.requires.can))
    (c.make.ensures.end last e)
