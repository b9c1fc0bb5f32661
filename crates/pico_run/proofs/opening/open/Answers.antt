use Rattle.std.proofs.Common.{◌≡◌, ◌∙◌, [], sym, subst}
use Rattle.std.specs.Vec.Iter.{into_iter_items}
use Rattle.std.proofs.lemmas.List.{nil_from_length}
use Rattle.journal_core.specs.Seated.{Lock}
use Rattle.world_model.specs.World.{node_count}
use Rattle.pico_run.specs.Grid.{IsGrid, rows_of}
use Rattle.pico_run.specs.Opened.{AreOpened}
use Rattle.pico_run.proofs.Opens.{IsOpening, opening-end, opening-more, opening-start}
use Rattle.pico_run.proofs.opening.open.Goals as goal

pub loop-seat-init : goal.loop-seat-init
loop-seat-init c =
    let count : c.len-count.result ≡ node_count c.args.script.now = c.len-count.ensures
    in let seats : c.in_ok-lock.lock.seats ≡ node_count c.args.script.now = c.in_ok-lock.ensures.count ∙ count
    in subst
    (λ (lock : Lock). IsOpening c.args.script.now lock c.new-nodes.result.items
    (into_iter_items c.into_iter-rows.result)
    (into_iter_items c.into_iter-seat-iterator.result)) (sym c.lock.view_is)
    (opening-start c.args.script.now c.in_ok-lock.lock _ c.in_ok-rows.field-0.items _ c.in_ok-lock.seats _
    c.new-nodes.ensures.items c.into_iter-rows.ensures.rest
    (c.into_iter-seat-iterator.ensures.into_iter_gives.0 ∙ c.into_vec-seat-items.ensures) seats
    (subst (λ n. IsGrid n (rows_of c.in_ok-rows.field-0.items)) count c.in_ok-rows.ensures.grid)
    c.in_ok-rows.ensures.new c.in_ok-lock.ensures.all.0 (c.in_ok-lock.ensures.all.1 ∙ seats) c.in_ok-lock.ensures.new)

pub loop-seat-preserved : goal.loop-seat-preserved
loop-seat-preserved c =
    opening-more c.args.script.now _ _ _ _ _ _ _ c.in-Some-next.field-0 c.in-Some.seat c.in_ok-open_node.field-0
    c.loop-seat.invariant c.in-Some.ensures.steps.0 c.in-Some-next.ensures.items
    c.in_ok-open_node.ensures
    c.in_ok-push.ensures.items

pub returns : goal.returns
returns c =
    let none : into_iter_items c.loop-seat.seat-iterator ≡ [] =
    nil_from_length _ (sym c.loop-seat.seat-iterator.rest.ok.0 ∙ c.in-None.ensures.steps.0)
    in subst (λ (lock : Lock). AreOpened c.args.script.now lock c.loop-seat.nodes.items) c.lock.view_is
    (opening-end c.args.script.now _ _ _ _ c.new_nodes_are_logged.ensures c.loop-seat.invariant none)
