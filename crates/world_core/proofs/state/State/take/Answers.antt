use Rattle.std.proofs.Common.{refl, arith}
use Rattle.std.proofs.lemmas.Result.{on_ok_weaker}
use Rattle.node_core.specs.declared.turn.Input.TheVariants as inputs
use Rattle.world_core.proofs.Counting.{others-turned}
use Rattle.world_core.proofs.Wholes.{seats-turn, turn_handed}
use Rattle.world_core.proofs.state.State.take.Goals as goal

pub finish-requires-clause-seats : goal.finish-requires-clause-seats
finish-requires-clause-seats c =
    let s = c.args.self.now in
    seats-turn s.nodes.items s.inboxes.items c.place.result _ _ _ _ _ c.requires.seats
    c.in_ok-take_turn.ensures.taken

pub finish-requires-clause-counted : goal.finish-requires-clause-counted
finish-requires-clause-counted c count =
    let s = c.args.self.now in
    others-turned s.nodes.items s.inboxes.items c.args.node c.place.result count s.counts c.take_turn.new.node
    c.requires.counted c.place.ensures.place

pub returns : goal.returns
returns c =
    let s = c.args.self.now in
    on_ok_weaker c.finish.result
    (turn_handed s _ c.finish.new.self c.args.node c.place.result (inputs.Take c.args.from c.args.frame) _
    c.index_mut.result.now c.take_turn.new.node c.requires.seats.whole
    c.place.ensures.place (omega (arith, c.place.ensures.next))
    c.index_mut.ensures.value refl c.requires.none c.in_ok-take_turn.ensures refl refl refl)
    c.finish.ensures
