use Rattle.std.proofs.Common.{not, nat_eq, rules}
use Rattle.std.proofs.lemmas.Fn.{filter_same}
use Rattle.kernel_model.specs.Row.{EndedChild}
use Rattle.fork_wait.proofs.family.forget.Goals as goal

pub returns-clause-out : goal.returns-clause-out
returns-clause-out c =
    filter_same _ (λ (e : EndedChild). not (nat_eq c.args.child e.pid)) _
    (λ x b f h. search rules) _ _ c.retain.ensures.filtered
