use Rattle.std.proofs.Common.{◌∙◌, arith}
use Rattle.world_core.proofs.Seats.{count-there}
use Rattle.world_core.proofs.state.State.count_at.Goals as goal

pub at-requires : goal.at-requires
at-requires c =
    let there = count-there c.args.self.now c.args.node c.place.result c.requires.alive c.requires.there
    c.place.ensures.next in
    omega (arith, there.0)

pub returns-clause-count : goal.returns-clause-count
returns-clause-count c =
    let there = count-there c.args.self.now c.args.node c.place.result c.requires.alive c.requires.there
    c.place.ensures.next in
    c.from.ensures ∙ c.at.ensures ∙ there.1

pub returns-clause-few : goal.returns-clause-few
returns-clause-few c =
    let there = count-there c.args.self.now c.args.node c.place.result c.requires.alive c.requires.there
    c.place.ensures.next in
    omega (arith, c.from.ensures, c.at.ensures, there.1, there.2)
