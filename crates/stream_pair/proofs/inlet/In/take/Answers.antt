use Rattle.std.proofs.Common.{ap, ◌∙◌}
use Rattle.stream_pair.proofs.Steps.{takes_keep_order, looks_see_order}
use Rattle.stream_pair.proofs.inlet.In.take.Goals as goal

pub is_empty_as-requires-clause-rule : goal.is_empty_as-requires-clause-rule
is_empty_as-requires-clause-rule g c = looks_see_order _ _

pub pop_as-requires-clause-rule : goal.pop_as-requires-clause-rule
pop_as-requires-clause-rule g c =
    let after = c.is_empty_as.new.pass.me.view.client in
    let may = ap (λ h. h.takes) (c.is_empty_as.ensures.queue.2 ∙ c.self.invariant.1) in
    (takes_keep_order _ after may, looks_see_order _ after)
