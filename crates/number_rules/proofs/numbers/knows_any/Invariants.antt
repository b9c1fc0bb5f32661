use Rattle.std.proofs.Common.{◌≡◌, false}
use Rattle.std.specs.List.{range_with_len}
use Rattle.world_model.specs.Numbers.{knows_any}
use Rattle.number_rules.proofs.numbers.knows_any.Given as goal

-- none so far is known
abbrev pub invariant-loop-place : goal.invariant-loop-place
invariant-loop-place l = knows_any l.leader.directory l.kind (range_with_len l.first l.place) ≡ false
