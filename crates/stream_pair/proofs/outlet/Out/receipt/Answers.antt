use Rattle.stream_pair.proofs.Steps.{receipts_keep_order}
use Rattle.stream_pair.proofs.outlet.Out.receipt.Goals as goal

pub another-requires-clause-rule : goal.another-requires-clause-rule
another-requires-clause-rule c = receipts_keep_order _ _
