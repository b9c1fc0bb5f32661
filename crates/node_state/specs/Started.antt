-- A node that may start a call, and what it is once it has.
use Rattle.std.specs.Prelude.{◌+◌, Bool, ◌&&◌}
use Rattle.pico_base.specs.declared.call.Call.{Call}
use Rattle.kernel_model.specs.Numbers.{is_u32}
use Rattle.node_model.specs.Caller.{start_call}
use Rattle.world_model.specs.Node.{Node, can_run}
use Rattle.world_model.specs.Step.{Step, with_node}

-- no call is under way, and a further ticket is a number of four bytes
abbrev pub can_start : Node → Bool
can_start n = can_run n && is_u32 (n.caller.ticket + 1)

-- the call is under way
abbrev pub started : Step → Call → Step
started step call = with_node step (record step.node { caller = start_call step.node.caller call })
