use Rattle.node_calls.proofs.PlaceLemmas.{due-line, due-end}
use Rattle.node_calls.proofs.caller.Caller.due.Goals as goal

pub returns-in-Some-written_line : goal.returns-in-Some-written_line
returns-in-Some-written_line c =
    due-line c.args.script.now c.args.self.now c.self.inside.block c.self.inside.line c.self.inside.tried
    c.self.inside.ticket c.self.inside.variables
    c.self.inside.under_way c.self.inside.noted c.in-Some-written_line.line.now c.args.doom c.call_of.result
    c.self.view_is c.requires
    c.in_default.is
    c.in-Some-written_line.ensures c.call_of.ensures

pub returns-in-None : goal.returns-in-None
returns-in-None c =
    due-end c.args.script.now c.args.self.now c.self.inside.block c.self.inside.line c.self.inside.tried
    c.self.inside.ticket c.self.inside.variables
    c.self.inside.under_way c.self.inside.noted c.args.doom c.self.view_is c.requires c.in_default.is
    c.in-None.ensures
