use Rattle.std.proofs.Common.{arith}
use Rattle.world_core.proofs.Enabled.{seats-sent}
use Rattle.world_core.proofs.state.send_each.Goals as goal

pub send-requires : goal.send-requires
send-requires c =
    let seats = seats-sent c.args.nodes.now c.args.from c.loop-sent.yielded c.args.inboxes.now.items
    c.loop-sent.inboxes.items c.loop-sent.invariant.sent c.requires.seats in
    record {
      seats = seats;
      there = omega (arith, seats.width, c.requires.seats.width, c.requires.there);
      counted = c.loop-sent.invariant.counted;
    }
