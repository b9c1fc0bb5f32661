use Rattle.std.proofs.Common.{not, nat_eq, rules}
use Rattle.std.proofs.lemmas.Fn.{filter_same}
use Rattle.mono_kernel.proofs.awaited_set.drop_waiter.Goals as goal

pub returns-clause-others : goal.returns-clause-others
returns-clause-others c =
    filter_same _ (λ w. not (nat_eq c.args.pid w.pid)) _
    (λ x b q r. (search (rules, r), search (rules, r))) _ _ c.retain.ensures.filtered
