use Rattle.world_core.proofs.UnderWay.{IsLeftToAsk}
use Rattle.world_core.proofs.state.is_call_under_way.Given as goal

abbrev pub invariant-loop-at : goal.invariant-loop-at
invariant-loop-at l = IsLeftToAsk l.nodes l.at
