-- What the leader has besides.
use Rattle.world_model.specs.Node as nodes
use Rattle.node_state.specs.Keys.{bindings}
use Rattle.node_state.specs.declared.leader.Leader.{Leader}

abbrev pub leader_of : Leader → nodes.Leader
leader_of l =
    record { directory = l.directory; queue_keys = bindings l.queue_keys; set_keys = bindings l.set_keys }
