use Rattle.std.proofs.Common.{◌∙◌}
use Rattle.node_calls.proofs.VariableLemmas.{read-value, none-in_gap}
use Rattle.node_calls.proofs.variables.Variables.value.Goals as goal

pub returns-in-Ok : goal.returns-in-Ok
returns-in-Ok c =
    read-value c.args.self.now c.self.inside.values.items c.args.variable c.in-Ok.place c.index.result.now
    c.self.invariant c.self.view_is (rw c.deref.ensures.value at c.in-Ok.ensures.found) c.index.ensures

pub returns-in-Err : goal.returns-in-Err
returns-in-Err c =
    none-in_gap c.args.self.now c.deref.result.now c.args.variable c.in-Err.field-0
    (c.deref.ensures.value ∙ c.self.view_is) c.in-Err.ensures.absent
