use Rattle.std.proofs.Common.{refl}
use Rattle.node_log.proofs.Places.{lines-same}
use Rattle.node_log.proofs.Sent.{full-by_note}
use Rattle.node_log.proofs.works.Works.make.Goals as goal

pub returns-in_err-turn-clause-same : goal.returns-in_err-turn-clause-same
returns-in_err-turn-clause-same g c = record { number = refl; seat = (refl, refl); lines = lines-same _ }

pub returns-clause-end : goal.returns-clause-end
returns-clause-end g c = λ last e.
    let lines = c.as_slice.ensures.value in
    let sent = rw lines at c.in_ok-turn.ensures.ok in
    full-by_note _ _ _ _ _ _ _ _ sent (c.note.ensures.end last e)
