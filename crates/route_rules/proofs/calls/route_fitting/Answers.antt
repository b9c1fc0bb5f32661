use Rattle.std.proofs.Common.{refl}
use Rattle.route_rules.proofs.calls.route_fitting.Goals as goal

pub returns-else-may_route : goal.returns-else-may_route
returns-else-may_route c =
    (c.may_route.ensures c.args.script.now c.args.asked.caller c.args.asked.ticket c.if-may_route.false, refl)
