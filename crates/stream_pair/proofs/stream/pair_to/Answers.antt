use Rattle.std.proofs.Common.{rules}
use Rattle.stream_pair.proofs.Steps.{new_stream_is_in_order, parting_keeps_order}
use Rattle.stream_pair.proofs.stream.pair_to.Goals as goal

pub with_rule-requires : goal.with_rule-requires
with_rule-requires c = new_stream_is_in_order

pub another-taker-requires-clause-rule : goal.another-taker-requires-clause-rule
another-taker-requires-clause-rule c = parting_keeps_order _ _ (search rules) (search rules)
