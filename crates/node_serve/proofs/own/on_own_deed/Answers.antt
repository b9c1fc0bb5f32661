use Rattle.std.proofs.Common.{sym}
use Rattle.node_serve.specs.Callers.{waiting_with}
use Rattle.node_serve.proofs.OwnRows.{has-own-or}
use Rattle.node_serve.proofs.own.on_own_deed.Goals as goal

pub returns-in-Some-clause-left : goal.returns-in-Some-clause-left
returns-in-Some-clause-left c =
    has-own-or c.args.deeds.now.bodies (waiting_with c.args.who.now c.args.call.now) c.in-Some.body.now
    c.on_own_body.new.body c.on_own_body.result c.rise.ensures (sym c.in-Some.ensures.value) c.on_own_body.ensures.left
