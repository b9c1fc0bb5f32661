use Rattle.std.proofs.Common.{◌∙◌, ap}
use Rattle.kernel_model.specs.Signals.{Signals, with_mask}
use Rattle.signal_state.proofs.Masks.{mask-then-deliver}
use Rattle.signal_state.proofs.signals.Signals.mask.Goals as goal

pub returns-clause-masked : goal.returns-clause-masked
returns-clause-masked c =
    let s = c.self.inside in
    let before : Signals =
    record { actions = s.actions; mask = s.mask; pending = s.pending; handled = s.handled; doom = s.doom } in
    mask-then-deliver before _ c.args.how c.args.set c.changed_mask-self-inside.result
    c.changed_mask-self-inside.ensures
    c.deliver_each.ensures
    ∙ ap (λ (s : Signals). with_mask s c.args.how c.args.set) c.self.view_is
