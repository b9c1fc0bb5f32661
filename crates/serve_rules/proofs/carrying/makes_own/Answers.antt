use Rattle.node_serve.proofs.Making.{makes-own}
use Rattle.serve_rules.proofs.carrying.makes_own.Goals as goal

pub returns-in-Living : goal.returns-in-Living
returns-in-Living c apart =
    makes-own c.args.body.now c.in-Living.row c.args.caller c.is_child.result c.in-Living.is c.is_child.ensures apart
