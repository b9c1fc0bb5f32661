use Rattle.std.proofs.Common.{◌≡◌}
use Rattle.world_model.specs.World.{with_all_sent}
use Rattle.world_core.specs.Counts.{counts_of}
use Rattle.world_core.proofs.state.send_each.Given as goal

abbrev pub invariant-loop-sent : goal.invariant-loop-sent
invariant-loop-sent l = record {
  can_next : (goal.iterator-loop-sent).can_next l.sent-iterator;
  is_finite : (goal.iterator-loop-sent).is_finite l.sent-iterator;
  sent : l.inboxes.items ≡ with_all_sent l.from l.initial.inboxes.items l.yielded;
  counted : l.counts ≡ counts_of l.nodes l.inboxes.items;
}
