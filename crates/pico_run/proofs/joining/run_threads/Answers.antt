use Rattle.std.proofs.Common.{List, ◌++◌, length, take, drop, ap, sym, subst, arith}
use Rattle.log_model.specs.Views.{LoggedNode}
use Rattle.pico_run.specs.Opened.{AreOpened, AreReady}
use Rattle.pico_run.proofs.Counts.{few-nodes, some-nodes}
use Rattle.pico_run.proofs.Joins.{AreDone, rows-are-twins, seats-are-all, threads-are-joined, threads-done}
use Rattle.pico_run.proofs.joining.run_threads.Given.{Over}
use Rattle.pico_run.proofs.joining.run_threads.Goals as goal
use Rattle.pico_run.proofs.joining.run_threads.Goals.{After-as_mut_slice, Else-is_one_spent}

pub turn_all-requires-clause-count : goal.turn_all-requires-clause-count
turn_all-requires-clause-count g c κs within =
    let o : AreOpened c.args.script.now c.in_ok-lock.field-0.lock c.in_ok-lock.field-0.nodes.items =
    c.in_ok-lock.ensures
    in let lent = ap length c.as_mut_slice.ensures.value
    in let count = o.count
    in let some = some-nodes c.args.script.now c.requires
    in let few =
    few-nodes c.args.script.now c.requires in (omega (arith, lent, count, some), omega (arith, lent, count, few))

pub turn_all-requires-clause-ready : goal.turn_all-requires-clause-ready
turn_all-requires-clause-ready g c κs within =
    let o : AreOpened c.args.script.now c.in_ok-lock.field-0.lock c.in_ok-lock.field-0.nodes.items =
    c.in_ok-lock.ensures
    in subst (λ (xs : List LoggedNode). AreReady c.args.script.now c.in_ok-lock.field-0.lock 1 xs)
    (sym c.as_mut_slice.ensures.value) o.ready

-- the nodes as they are when their threads have ended
done : (g : Over) (c : Else-is_one_spent g)
    → AreDone c.args.script.now c.in_ok-lock.field-0.lock
    (take c.in_ok-lock.field-0.nodes.len
    (c.turn_all.new.nodes ++ drop (length c.turn_all.new.nodes) c.in_ok-lock.field-0.nodes.items))
done g c =
    threads-done c.args.script.now c.in_ok-lock.field-0.lock c.in_ok-lock.field-0.nodes.len
    c.in_ok-lock.field-0.nodes.items c.as_mut_slice.result.now c.turn_all.new.nodes c.as_slice.result.now
    c.in_ok-lock.ensures c.in_ok-lock.field-0.nodes.ok.0 c.as_mut_slice.ensures.value c.turn_all.ensures.count
    c.turn_all.ensures.worked c.as_slice.ensures.value (c.is_one_spent.ensures c.if-is_one_spent.false)

pub settle_all-requires : goal.settle_all-requires
settle_all-requires g c =
    rows-are-twins _ _ _ _ (done g (goal.at.settle_all-requires g c).Else-is_one_spent) c.in_ok-partings.ensures.rows

pub close-journal-requires : goal.close-journal-requires
close-journal-requires g c =
    seats-are-all _ _ _ _ (done g (goal.at.close-journal-requires g c).Else-is_one_spent) c.in_ok-partings.ensures.seats

pub returns : goal.returns
returns g c =
    threads-are-joined _ _ _ _ _ _ _ (some-nodes c.args.script.now c.requires)
    (done g (goal.at.returns g c).Else-is_one_spent) c.in_ok-partings.ensures.seats c.in_ok-partings.ensures.rows
    c.in_ok-partings.ensures.partings c.in_ok-settle_all.ensures c.close-journal.ensures
