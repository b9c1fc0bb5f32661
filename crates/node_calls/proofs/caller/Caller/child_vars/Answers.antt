use Rattle.node_calls.proofs.PlaceLemmas.{begun-are}
use Rattle.node_calls.proofs.caller.Caller.child_vars.Goals as goal

pub returns : goal.returns
returns c =
    begun-are c.args.script.now c.args.self.now c.self.inside.block c.self.inside.line c.self.inside.tried
    c.self.inside.ticket
    c.terms_at-terms.result.tries c.self.inside.variables c.terms_at-terms.result.set c.self.inside.under_way
    c.self.inside.noted
    c.with_zero.result c.self.view_is c.requires
    c.terms_at-terms.ensures.terms c.with_zero.ensures
