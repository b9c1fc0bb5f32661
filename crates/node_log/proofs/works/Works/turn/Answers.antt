use Rattle.std.proofs.Common.{◌≡◌, Some, refl, sym, ◌∙◌}
use Rattle.world_model.specs.Node.{Node, can_run}
use Rattle.log_laws.specs.Logs.{Runs, Takes, stamped}
use Rattle.log_model.specs.declared.found.Found.TheVariants as founds
use Rattle.node_log.proofs.Rules.{at_node, gives-part, gives-nothing}
use Rattle.node_log.proofs.Turns.{place-behind, turned-by_event, turned-refused, turned-part, turned-nothing}
use Rattle.node_log.proofs.works.Works.turn.Goals as goal

pub returns-in-Whole-clause-same : goal.returns-in-Whole-clause-same
returns-in-Whole-clause-same g c =
    let old = c.args.self.now in
    place-behind old
    (record old { forker = c.found_by-found.new.forker; lines = c.found_by-found.new.lines })
    c.take.new.self c.found_by-found.ensures.same c.take.ensures.same

pub returns-then-can_run-clause-same : goal.returns-then-can_run-clause-same
returns-then-can_run-clause-same g c =
    let old = c.args.self.now in
    place-behind old
    (record old { forker = c.found_by-found.new.forker; lines = c.found_by-found.new.lines })
    c.run.new.self c.found_by-found.ensures.same c.run.ensures.same

pub returns-then-can_run-2-clause-same : goal.returns-then-can_run-2-clause-same
returns-then-can_run-2-clause-same g c =
    let old = c.args.self.now in
    place-behind old
    (record old { forker = c.found_by-found.new.forker; lines = c.found_by-found.new.lines })
    c.run-then-can_run-2.new.self c.found_by-found.ensures.same c.run-then-can_run-2.ensures.same

pub returns-in-Whole-clause-turned : goal.returns-in-Whole-clause-turned
returns-in-Whole-clause-turned g c = λ quiet.
    let old = c.args.self.now in
    let looked = record old { forker = c.found_by-found.new.forker; lines = c.found_by-found.new.lines } in
    let looks = rw c.in-Whole.is at c.in-Ok.ensures.looks in
    let frame = c.in-Whole.frame in
    let input = Takes c.in-Whole.from (stamped c.in-Whole.stamp frame) in
    rw c.made_of.ensures
    (turned-by_event c.args.script.now old looked c.take.new.self
    (founds.Whole c.in-Whole.from c.in-Whole.stamp frame) input c.take.result quiet looks (λ n here. refl)
    c.found_by-found.ensures.same c.take.ensures.same c.take.ensures.ok c.take.ensures.bad c.take.ensures.end)

pub returns-then-can_run-clause-turned : goal.returns-then-can_run-clause-turned
returns-then-can_run-clause-turned g c = λ quiet.
    let old = c.args.self.now in
    let looked = record old { forker = c.found_by-found.new.forker; lines = c.found_by-found.new.lines } in
    let looks = rw c.in-Part.is at c.in-Ok.ensures.looks in
    let can = λ (n : Node) (here : old.node ≡ Some n).
    sym (at_node (λ n. c.can_run.result ≡ can_run n) _ n here c.can_run.ensures) ∙ c.if-can_run.true
    in
    rw c.made_of-then-can_run.ensures
    (turned-by_event c.args.script.now old looked c.run.new.self founds.Part Runs c.run.result quiet looks
    (λ n here. gives-part n (can n here)) c.found_by-found.ensures.same c.run.ensures.same c.run.ensures.ok
    c.run.ensures.bad c.run.ensures.end)

pub returns-then-can_run-2-clause-turned : goal.returns-then-can_run-2-clause-turned
returns-then-can_run-2-clause-turned g c = λ quiet.
    let old = c.args.self.now in
    let looked = record old { forker = c.found_by-found.new.forker; lines = c.found_by-found.new.lines } in
    let looks = rw c.in-Nothing.is at c.in-Ok.ensures.looks in
    let can = λ (n : Node) (here : old.node ≡ Some n).
    sym (at_node (λ n. c.can_run-in-Nothing.result ≡ can_run n) _ n here c.can_run-in-Nothing.ensures)
    ∙ c.if-can_run-2.true
    in
    rw c.made_of-then-can_run-2.ensures
    (turned-by_event c.args.script.now old looked c.run-then-can_run-2.new.self founds.Nothing Runs
    c.run-then-can_run-2.result quiet looks (λ n here. gives-nothing n (can n here)) c.found_by-found.ensures.same
    c.run-then-can_run-2.ensures.same c.run-then-can_run-2.ensures.ok c.run-then-can_run-2.ensures.bad
    c.run-then-can_run-2.ensures.end)

pub returns-in-Refused-clause-turned : goal.returns-in-Refused-clause-turned
returns-in-Refused-clause-turned g c = λ quiet.
    let old = c.args.self.now in
    let looked = record old { forker = c.found_by-found.new.forker; lines = c.found_by-found.new.lines } in
    turned-refused c.args.script.now old looked quiet c.requires.whole
    (rw c.in-Refused.is at c.in-Ok.ensures.looks)

pub returns-else-can_run-clause-turned : goal.returns-else-can_run-clause-turned
returns-else-can_run-clause-turned g c = λ quiet.
    let old = c.args.self.now in
    let looked = record old { forker = c.found_by-found.new.forker; lines = c.found_by-found.new.lines } in
    turned-part c.args.script.now old looked quiet c.requires.whole (rw c.in-Part.is at c.in-Ok.ensures.looks)
    (λ n here. sym (at_node (λ n. c.can_run.result ≡ can_run n) _ n here c.can_run.ensures) ∙ c.if-can_run.false)

pub returns-else-can_run-2-clause-turned : goal.returns-else-can_run-2-clause-turned
returns-else-can_run-2-clause-turned g c = λ quiet.
    let old = c.args.self.now in
    let looked = record old { forker = c.found_by-found.new.forker; lines = c.found_by-found.new.lines } in
    turned-nothing c.args.script.now old looked quiet c.requires.whole
    (rw c.in-Nothing.is at c.in-Ok.ensures.looks)
    (λ n here. sym (at_node (λ n. c.can_run-in-Nothing.result ≡ can_run n) _ n here c.can_run-in-Nothing.ensures)
    ∙ c.if-can_run-2.false)
