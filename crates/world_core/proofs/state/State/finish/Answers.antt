use Rattle.std.proofs.Common.{◌-◌, List, Option, sym, ap, subst, ◌∙◌, arith}
use Rattle.world_model.specs.Node.{Node}
use Rattle.world_core.specs.Counts.{counts_of}
use Rattle.world_core.specs.State.{AreSeats}
use Rattle.world_core.proofs.Counting.{counted-anew, counted-width, some-read}
use Rattle.world_core.proofs.state.State.finish.Goals as goal

pub count_of-requires : goal.count_of-requires
count_of-requires c = record {
  whole =
      some-read c.args.self.now.nodes.items c.place-at.result c.index.result.now c.requires.seats.whole
      (omega (arith, c.place-at.ensures.next)) c.index.ensures;
}

pub set-requires-clause-there : goal.set-requires-clause-there
set-requires-clause-there c =
    let s = c.args.self.now in
    let width = counted-width s.nodes.items s.inboxes.items (c.args.node - 1) s.counts c.requires.counted
    c.requires.seats.width in
    omega (arith, width, c.place-at.ensures.next)

pub send_all-requires : goal.send_all-requires
send_all-requires c =
    let s = c.args.self.now in
    record {
      seats =
          subst (λ (ns : List (Option Node)). AreSeats ns s.inboxes.items) (sym c.deref.ensures.value) c.requires.seats;
      there = omega (arith, c.requires.there, c.requires.seats.width);
      counted =
          c.set.ensures
          ∙ counted-anew s.nodes.items s.inboxes.items c.args.node c.place-at.result c.count_of.result s.counts
          _ _ c.requires.counted c.place-at.ensures.place (omega arith)
          (omega (arith, c.requires.seats.width)) c.index.ensures c.index-2.ensures c.count_of.ensures.count
          ∙ sym (ap (λ (ns : List (Option Node)). counts_of ns s.inboxes.items) c.deref.ensures.value);
    }
