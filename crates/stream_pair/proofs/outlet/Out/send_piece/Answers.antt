use Rattle.std.proofs.Common.{ap}
use Rattle.stream_pair.proofs.Steps.{sends_keep_order}
use Rattle.stream_pair.proofs.outlet.Out.send_piece.Goals as goal

pub push_as-requires-clause-rule : goal.push_as-requires-clause-rule
push_as-requires-clause-rule g c = λ n. sends_keep_order n _ _ _ (ap (λ h. h.sends) c.self.invariant.1)
