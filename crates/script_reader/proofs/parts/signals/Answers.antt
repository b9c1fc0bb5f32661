use Rattle.std.proofs.Common.{sym, ◌∙◌, ap}
use Rattle.script_reader.specs.Words.{pieces}
use Rattle.script_reader.specs.Parts.{signals_with}
use Rattle.script_reader.proofs.Cuts.{next_piece, no_more_pieces}
use Rattle.script_reader.proofs.Each.{signals-next}
use Rattle.script_reader.proofs.parts.signals.Goals as goal

pub loop-name-preserved : goal.loop-name-preserved
loop-name-preserved c =
    let l = c.loop-name in
    signals-next l.set c.in-Some.name.now (pieces 44 c.in-Some.after.now) (pieces 44 l.rest.now) _
    (next_piece 44 l.rest.now c.in-Some.name.now c.in-Some.after.now c.in-Some.ensures.value)
    (sym c.in_ok-more.was ∙ c.with_signal.ensures)
    ∙ l.invariant

pub returns-in_err-more : goal.returns-in_err-more
returns-in_err-more c =
    let l = c.loop-name in
    c.from_residual.ensures
    ∙ signals-next l.set c.in-Some.name.now (pieces 44 c.in-Some.after.now) (pieces 44 l.rest.now) _
    (next_piece 44 l.rest.now c.in-Some.name.now c.in-Some.after.now c.in-Some.ensures.value)
    (sym c.in_err-more.was ∙ c.with_signal.ensures)
    ∙ l.invariant

pub returns : goal.returns
returns c =
    let l = c.loop-name in
    c.with_signal-2.ensures ∙ ap (signals_with l.set) (sym (no_more_pieces 44 l.rest.now c.in_default.ensures.value))
    ∙ l.invariant
