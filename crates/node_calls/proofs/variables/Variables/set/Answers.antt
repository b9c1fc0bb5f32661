use Rattle.node_calls.proofs.VariableLemmas.{rising-set}
use Rattle.node_calls.proofs.variables.Variables.set.Goals as goal

pub invariant_of-self : goal.invariant_of-self
invariant_of-self c =
    rising-set c.self.inside.values.items c.put.new.values.items c.in-Some.variable c.args.value c.put.result
    c.self.invariant c.put.ensures.ok
    c.put.ensures.err
