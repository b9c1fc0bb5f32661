use Rattle.std.proofs.Common.{◌∙◌, [], ◌∷◌, ◌++◌, Option, ap}
use Rattle.trace_text.specs.Totals.{tally_of}
use Rattle.mq_model.specs.Text.{mq_line}
use Rattle.posix_mq.specs.declared.text.Refusal.{Refusal}
use Rattle.posix_mq.specs.Told.{counted_of, told_of}
use Rattle.posix_mq.proofs.Telling.{told-next}
use Rattle.posix_mq.proofs.text.push_lines.Goals as goal

pub loop-entry-preserved : goal.loop-entry-preserved
loop-entry-preserved c =
    told-next c.args.script.now c.args.given.now c.args.journal.now c.args.out.now.items c.loop-entry.out.items
    c.push_line.new.out.items c.loop-entry.tally c.count.new.tally c.loop-entry.places.entries
    c.pass.new.places.entries c.loop-entry.entry-index c.entry-item.result c.loop-entry.invariant
    c.loop-entry-test.true c.entry-item.is
    (c.in_ok-push_line.ensures
    ∙ ap (λ (r : Option Refusal). c.loop-entry.out.items ++ mq_line c.args.script.now (told_of c.entry-item.result r))
    c.in_ok-refusal.ensures)
    (c.in_ok-count.ensures c.loop-entry.invariant.before c.loop-entry.invariant.tally
    ∙ ap (λ (r : Option Refusal). tally_of (c.loop-entry.invariant.before ++ counted_of c.entry-item.result r ∷ []))
    c.in_ok-refusal.ensures)
    c.in_ok-pass.ensures
