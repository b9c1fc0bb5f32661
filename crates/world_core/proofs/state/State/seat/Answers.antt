use Rattle.std.proofs.Common.{arith}
use Rattle.world_core.specs.State.{world_of}
use Rattle.world_core.proofs.Seats.{seat_is}
use Rattle.world_core.proofs.Wholes.{length-whole}
use Rattle.world_core.proofs.Worlds.{IsShaped, alive-shaped}
use Rattle.world_core.proofs.state.State.seat.Goals as goal

pub index-requires : goal.index-requires
index-requires c =
    let s = c.args.self.now
    in let shaped : IsShaped (world_of s) = alive-shaped s c.requires.alive
    in omega (arith, shaped.nodes, length-whole s.nodes.items c.requires.alive.nodes, s.nodes.ok.0)

pub index-requires-2 : goal.index-requires-2
index-requires-2 c =
    let s = c.args.self.now
    in let shaped : IsShaped (world_of s) = alive-shaped s c.requires.alive
    in omega (arith, shaped.streams, s.inboxes.ok.0)

pub returns : goal.returns
returns c =
    seat_is c.args.self.now c.args.node c.place-at.result c.index.result.now c.index-2.result.now c.requires.alive
    c.requires.there
    c.place-at.ensures.next c.index.ensures c.index-2.ensures
