use Rattle.node_log.proofs.Inside.{IsCounted, room-counted}
use Rattle.node_log.proofs.logged.Logged.finish.Goals as goal

pub ends_of-requires-clause-room : goal.ends_of-requires-clause-room
ends_of-requires-clause-room c =
    let counted : IsCounted c.self.inside c.note_silences.new.self =
    record { lines = c.note_silences.ensures.lines; same = c.note_silences.ensures.same }
    in
    room-counted c.self.inside c.note_silences.new.self c.self.invariant counted
