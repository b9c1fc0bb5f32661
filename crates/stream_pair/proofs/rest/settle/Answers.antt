use Rattle.std.proofs.Common.{ap}
use Rattle.stream_pair.proofs.Steps.{meeting_keeps_order, both_ends_know_the_rest}
use Rattle.stream_pair.proofs.rest.settle.Goals as goal

pub absorb-requires-clause-rule : goal.absorb-requires-clause-rule
absorb-requires-clause-rule g c =
    meeting_keeps_order _ _ _ _ (ap (λ h. h.sends) c.into_parts-stream.ensures.pass.1)
    (ap (λ h. h.takes) c.into_pass.ensures.1)

pub len_as-requires-clause-rule : goal.len_as-requires-clause-rule
len_as-requires-clause-rule g c =
    both_ends_know_the_rest _ _ (ap (λ h. h.sends) c.absorb.ensures.rule) (ap (λ h. h.takes) c.absorb.ensures.rule)
