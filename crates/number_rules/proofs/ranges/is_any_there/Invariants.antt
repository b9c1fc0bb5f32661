use Rattle.std.proofs.Common.{◌≡◌, false}
use Rattle.std.specs.List.{list_any, range_with_len}
use Rattle.world_model.specs.Ranges.{is_there}
use Rattle.node_state.specs.State.{node_of}
use Rattle.number_rules.proofs.ranges.is_any_there.Given as goal

-- none so far is there
abbrev pub invariant-loop-place : goal.invariant-loop-place
invariant-loop-place l = list_any (is_there (node_of l.node) l.kind) (range_with_len l.first l.place) ≡ false
