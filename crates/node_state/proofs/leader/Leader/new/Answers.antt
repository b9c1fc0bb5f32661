use Rattle.node_state.proofs.Keys.{leader-opens}
use Rattle.node_state.proofs.leader.Leader.new.Goals as goal

pub returns : goal.returns
returns c = leader-opens _ _ _ c.in_ok-new.ensures c.in_ok-new-2.ensures c.in_ok-new-3.ensures
