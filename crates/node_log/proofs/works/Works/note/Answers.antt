use Rattle.std.proofs.lemmas.Result.{err_from_is_err_and}
use Rattle.node_log.proofs.Sent.{unnoted-by, place-noted}
use Rattle.node_log.proofs.works.Works.note.Goals as goal

pub returns-in_err-stamp-clause-end : goal.returns-in_err-stamp-clause-end
returns-in_err-stamp-clause-end g c = λ last e.
    let old = c.args.self.now in
    let p = err_from_is_err_and c.from_residual.result c.from_residual.ensures.1 in
    let h = c.in_err-stamp.ensures.end last cc in
    unnoted-by old (record old { log = c.note_event.new.log; seat = c.note_event.new.seat }) c.args.floor
    c.args.turn.entries last h.0 h.1

pub returns-in_err-stamp-clause-same : goal.returns-in_err-stamp-clause-same
returns-in_err-stamp-clause-same g c =
    let old = c.args.self.now in
    place-noted old (record old { log = c.note_event.new.log; seat = c.note_event.new.seat })
    c.note_event.ensures.same
