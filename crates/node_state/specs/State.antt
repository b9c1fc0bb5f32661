-- The state of a node that isn't spent, as a node of the machine, and a step that grows.
use Rattle.world_model.specs.Node as nodes
use Rattle.world_model.specs.Step as steps
use Rattle.node_serve.specs.Bodies.{bodies_of}
use Rattle.node_state.specs.Leader.{leader_of}
use Rattle.node_state.specs.declared.growing.Growing.{Growing}
use Rattle.node_state.specs.declared.state.Stage.{Stage}
use Rattle.node_state.specs.declared.state.Stage.TheVariants.{Unborn, Living, Leaving, Left, Over}
use Rattle.node_state.specs.declared.state.State.{State}

abbrev pub stage_of : Stage → nodes.Stage
stage_of Unborn = nodes.Unborn
stage_of Living = nodes.Living
stage_of Leaving = nodes.Leaving
stage_of Left = nodes.Left
stage_of Over = nodes.Over

abbrev pub node_of : State → nodes.Node
node_of s =
    record {
      number = s.caller.block;
      stage = stage_of s.stage;
      pid = s.pid;
      parent = s.parent;
      parent_node = s.parent_node;
      caller = s.caller.caller;
      deeds = bodies_of s.deeds.bodies;
      watches = s.watches;
      leases = s.leases;
      cache = s.cache;
      leader = leader_of s.leader;
    }

abbrev pub step_of : Growing → steps.Step
step_of g = record { node = node_of g.node; entries = g.entries; sends = g.sends; strikes = g.strikes }
