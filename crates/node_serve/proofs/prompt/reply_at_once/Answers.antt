use Rattle.std.proofs.Common.{sym}
use Rattle.node_serve.specs.Callers.{waiting_with}
use Rattle.node_serve.proofs.Defined.{answered-or}
use Rattle.node_serve.proofs.prompt.reply_at_once.Goals as goal

pub returns-in_ok-on_body-in-Some : goal.returns-in_ok-on_body-in-Some
returns-in_ok-on_body-in-Some c =
    answered-or c.args.deeds.now.bodies c.args.name (waiting_with c.args.who.now c.args.call.now) c.in-Some.body.now
    c.on_body.new.body c.in_ok-on_body-in-Some.field-0 c.rise.ensures (sym c.in-Some.ensures.value)
    c.in_ok-on_body-in-Some.ensures
