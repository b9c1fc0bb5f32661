use Rattle.std.proofs.Common.{◌∙◌, ℕ, List, sym, ap}
use Rattle.pico_base.specs.declared.reply.Reply.{Reply}
use Rattle.kernel_model.specs.Trace.{by_text}
use Rattle.trace_text.proofs.ExpectedLaws.{printed-ends, cleared}
use Rattle.trace_text.proofs.expected.is_printed_end.Goals as goal

pub returns : goal.returns
returns c = λ is.
    printed-ends c.args.outcome.now c.in-Some-by_number.node c.args.rest.now c.in-Some.behind.now
    c.deref.result.now c.deref-2.result.now (sym c.is_outcome.ensures ∙ c.if-not-is_outcome.false)
    (cleared c.clear.ensures.items (c.deref.ensures.value ∙ c.in_ok-push_own.ensures))
    (sym c.in-Some.ensures)
    c.in-Some-by_number.ensures.node
    (cleared c.clear-2.ensures.items (c.deref-2.ensures.value ∙ c.in_ok-push_by.ensures)
    ∙ ap (λ (ws : List (ℕ × Reply)). by_text c.in-Some-by_number.node ws) c.as_slice.ensures)
    (sym c.is_line.ensures ∙ is)
