use Rattle.std.proofs.Common.{ap}
use Rattle.stream_pair.proofs.Steps.{telling_keeps_order}
use Rattle.stream_pair.proofs.inlet.In.tell.Goals as goal

pub absorb-requires-clause-rule : goal.absorb-requires-clause-rule
absorb-requires-clause-rule c =
    telling_keeps_order _ c.self.inside.pass.me.view.client _ c.into_pass.result.me.view.client
    (ap (λ h. h.takes) c.self.invariant.1)
