use Rattle.std.proofs.Common.{◌≡◌, map}
use Rattle.stamp_merge.specs.Merge.{items_of}
use Rattle.world_model.specs.World.{numbers}
use Rattle.image_text.proofs.order.logs_of.Given as goal

-- the logs so far
abbrev pub invariant-loop-before : goal.invariant-loop-before
invariant-loop-before l = l.logs ≡ map (λ p. items_of p l.events) (numbers 1 l.before)
