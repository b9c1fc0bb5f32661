use Rattle.std.specs.Option.{option_copied}
use Rattle.node_calls.proofs.PlaceLemmas.{due-if-written}
use Rattle.node_calls.proofs.caller.Caller.written_call.Goals as goal

pub returns-in-Some : goal.returns-in-Some
returns-in-Some c =
    due-if-written c.args.script.now c.args.self.now c.self.inside.block c.self.inside.line c.self.inside.tried
    c.self.inside.ticket c.self.inside.variables c.self.inside.under_way c.self.inside.noted c.in-Some.line.now
    (option_copied c.as_written.result) c.self.view_is c.requires c.in-Some.ensures c.as_written.ensures
