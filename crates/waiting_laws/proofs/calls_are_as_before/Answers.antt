use Rattle.waiting_laws.proofs.Transitions.{calls-as-before}
use Rattle.waiting_laws.proofs.calls_are_as_before.Goals as goal

pub returns : goal.returns
returns c = calls-as-before
