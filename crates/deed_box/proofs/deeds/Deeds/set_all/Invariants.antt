use Rattle.std.proofs.Common.{◌≡◌, ◌≤◌, ◌+◌, length}
use Rattle.node_model.specs.Kinds.{put_all}
use Rattle.deed_box.proofs.deeds.Deeds.set_all.Given as goal

abbrev pub invariant-loop-name : goal.invariant-loop-name
invariant-loop-name g l =
    (put_all l.self.bodies l.name-iterator.rest.items ≡ put_all l.fn.self.bodies l.fn.deeds.items)
    × (length l.name-iterator.rest.items ≤ l.self.spare)
    × (l.fn.self.spare + length l.name-iterator.rest.items ≤ l.self.spare + length l.fn.deeds.items)
