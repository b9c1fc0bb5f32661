use Rattle.std.proofs.Common.{sym, ap, ◌∙◌}
use Rattle.kernel_model.specs.Signals.{Signals}
use Rattle.signal_state.proofs.Masks.{none-delivered}
use Rattle.signal_state.proofs.signals.Signals.deliver_each.Goals as goal

pub returns-then-is_empty : goal.returns-then-is_empty
returns-then-is_empty c =
    sym (none-delivered c.args.self.now c.args.sigs.now
    (ap (λ (t : Signals). t.pending) (sym c.self.view_is) ∙ c.is_empty.ensures.0 c.if-is_empty.true))
