use Rattle.std.proofs.Common.{ℕ, false, ap, ◌∙◌}
use Rattle.pico_base.specs.Signal.{all_signals, everywhere}
use Rattle.signal_state.specs.Reading.{set_from}
use Rattle.signal_state.proofs.Places.{two-read, rest-of}
use Rattle.signal_state.proofs.reading.set_of_bytes.Goals as goal

pub returns : goal.returns
returns c =
    let read = rw (c.unwrap-number.ensures, rest-of c.args.bytes.now c.args.place) at c.u16_at.ensures in
    c.set_of.ensures ∙ ap (λ (n : ℕ). set_from n all_signals (everywhere false))
    (two-read c.args.bytes.now c.args.place _ c.requires read)
