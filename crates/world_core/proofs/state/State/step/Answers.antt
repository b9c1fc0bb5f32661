use Rattle.std.proofs.Common.{ℕ, ◌-◌, List, set, refl, ap, arith}
use Rattle.std.proofs.lemmas.Result.{on_ok_weaker}
use Rattle.world_core.specs.State.{world_of}
use Rattle.world_core.proofs.Counting.{others-counted}
use Rattle.world_core.proofs.Enabled.{run_within, take_within, seats-taken}
use Rattle.world_core.proofs.Seats.{alive-seats}
use Rattle.world_core.proofs.Worlds.{IsShaped, alive-shaped}
use Rattle.world_core.proofs.Wholes.{length-whole, run_steps, take_steps}
use Rattle.world_core.proofs.Allowed.{run_allowed, take_allowed}
use Rattle.world_core.proofs.Alive.{step_there}
use Rattle.world_core.proofs.state.State.step.Goals as goal

pub run-requires-clause-seats : goal.run-requires-clause-seats
run-requires-clause-seats c = alive-seats c.args.self.now c.requires.alive

pub take-requires-in-Take-clause-seats : goal.take-requires-in-Take-clause-seats
take-requires-in-Take-clause-seats c =
    let w = world_of c.args.self.now
    in let le = take_within w c.args.event c.in-Take.node c.in-Take.from c.requires.enabled c.in-Take.is
    in seats-taken c.args.self.now.nodes.items c.args.self.now.inboxes.items c.place.result c.in-Take.from
    c.in-Some.frame _ _ (alive-seats c.args.self.now c.requires.alive)
    (omega (arith, length-whole c.args.self.now.nodes.items c.requires.alive.nodes, c.place.ensures.next))
    c.index_mut.ensures.value c.in-Some.ensures

pub run-requires-clause-there : goal.run-requires-clause-there
run-requires-clause-there c =
    let le = run_within (world_of c.args.self.now) c.args.event c.in-Run.node c.requires.enabled c.in-Run.is in
    omega (arith, length-whole c.args.self.now.nodes.items c.requires.alive.nodes)

pub take-requires-in-Take-clause-there : goal.take-requires-in-Take-clause-there
take-requires-in-Take-clause-there c =
    let w = world_of c.args.self.now
    in let le = take_within w c.args.event c.in-Take.node c.in-Take.from c.requires.enabled c.in-Take.is
    in let same = length-whole c.args.self.now.nodes.items c.requires.alive.nodes
    in omega arith

pub run-requires-clause-counted : goal.run-requires-clause-counted
run-requires-clause-counted c count = ap (λ (l : List ℕ). set l (c.in-Run.node - 1) count) c.requires.alive.counted

pub take-requires-in-Take-clause-counted : goal.take-requires-in-Take-clause-counted
take-requires-in-Take-clause-counted c count =
    others-counted c.args.self.now.nodes.items c.args.self.now.inboxes.items c.in-Take.node c.place.result count
    c.args.self.now.counts _ c.requires.alive.counted c.place.ensures.place

pub run-requires-clause-allowed : goal.run-requires-clause-allowed
run-requires-clause-allowed c =
    let w = world_of c.args.self.now
    in run_allowed w c.args.event c.in-Run.node
    (step_there c.args.self.now c.args.event c.enabled_events_have_steps.ensures c.requires.alive c.requires.enabled)
    c.in-Run.is

pub take-requires-in-Take-clause-allowed : goal.take-requires-in-Take-clause-allowed
take-requires-in-Take-clause-allowed c =
    let w = world_of c.args.self.now
    in let shaped : IsShaped w = alive-shaped c.args.self.now c.requires.alive
    in let le = take_within w c.args.event c.in-Take.node c.in-Take.from c.requires.enabled c.in-Take.is
    in take_allowed w c.args.event c.in-Take.node c.in-Take.from c.place.result c.in-Some.frame _ _
    (step_there c.args.self.now c.args.event c.enabled_events_have_steps.ensures c.requires.alive c.requires.enabled)
    c.in-Take.is c.place.ensures.place
    (omega (arith, shaped.nodes, shaped.streams, c.place.ensures.next)) c.index_mut.ensures.value c.in-Some.ensures

pub returns-in-Run : goal.returns-in-Run
returns-in-Run c =
    on_ok_weaker c.run.result (run_steps c.args.self.now _ c.args.event c.in-Run.node c.in-Run.is) c.run.ensures

pub returns-in-Some : goal.returns-in-Some
returns-in-Some c =
    let w = world_of c.args.self.now in
    let shaped : IsShaped w = alive-shaped c.args.self.now c.requires.alive in
    let le = take_within w c.args.event c.in-Take.node c.in-Take.from c.requires.enabled c.in-Take.is in
    on_ok_weaker c.take-in-Take.result
    (take_steps c.args.self.now _ _ c.args.event c.in-Take.node c.in-Take.from c.place.result c.in-Some.frame _ _
    c.in-Take.is c.place.ensures.place
    (omega (arith, shaped.nodes, shaped.streams, c.place.ensures.next)) c.index_mut.ensures.value c.in-Some.ensures
    refl refl refl refl)
    c.take-in-Take.ensures
