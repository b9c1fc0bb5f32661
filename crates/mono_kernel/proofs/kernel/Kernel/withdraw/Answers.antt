use Rattle.std.proofs.Common.{◌∙◌, refl, sym}
use Rattle.mono_kernel.proofs.WithdrawalLemmas.{not-withdrawn}
use Rattle.mono_kernel.proofs.kernel.Kernel.withdraw.Goals as goal

pub returns-then-not-may_withdraw-clause-not_allowed : goal.returns-then-not-may_withdraw-clause-not_allowed
returns-then-not-may_withdraw-clause-not_allowed c = λ n.
    let none = not-withdrawn c.args.self.now c.args.pid c.args.name.now n
    (sym c.may_withdraw.ensures ∙ c.if-not-may_withdraw.true)
    in ((λ _. none), (λ _. refl))
