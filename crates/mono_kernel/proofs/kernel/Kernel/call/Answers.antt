use Rattle.std.proofs.Common.{sym}
use Rattle.std.proofs.lemmas.Result.{IfOk-weaker}
use Rattle.mono_kernel.proofs.WithdrawalLemmas.{is-withdrawal}
use Rattle.mono_kernel.proofs.kernel.Kernel.call.Goals as goal

pub returns-in-Some-clause-ok : goal.returns-in-Some-clause-ok
returns-in-Some-clause-ok c =
    rw (is-withdrawal c.args.call.now c.in-Some.name (sym c.in-Some.ensures))
    (IfOk-weaker c.withdraw.result _ _ (λ outcome h. h c.args.chosen) c.withdraw.ensures.ok)

pub returns-in-Some-clause-not_allowed : goal.returns-in-Some-clause-not_allowed
returns-in-Some-clause-not_allowed c =
    rw (is-withdrawal c.args.call.now c.in-Some.name (sym c.in-Some.ensures))
    (c.withdraw.ensures.not_allowed c.args.chosen)
