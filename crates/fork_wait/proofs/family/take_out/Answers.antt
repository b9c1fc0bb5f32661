use Rattle.std.proofs.Common.{ℕ, not, nat_eq, rules}
use Rattle.std.proofs.lemmas.Fn.{filter_same}
use Rattle.fork_wait.proofs.family.take_out.Goals as goal

pub returns-clause-out : goal.returns-clause-out
returns-clause-out c =
    filter_same _ (λ (n : ℕ). not (nat_eq c.args.child n)) _ (λ x b f h. search rules) _ _ c.retain.ensures.filtered
