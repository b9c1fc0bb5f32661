use Rattle.signal_state.proofs.Places.{four-read, rest-of}
use Rattle.signal_state.proofs.reading.count_of.Goals as goal

pub returns : goal.returns
returns c =
    let read = rw (c.unwrap-number.ensures, rest-of c.args.bytes.now c.args.place) at c.u32_at.ensures in
    four-read c.args.bytes.now c.args.place _ c.requires read
