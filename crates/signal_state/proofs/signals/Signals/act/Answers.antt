use Rattle.std.proofs.Common.{◌≡◌, true, false, not, ◌&&◌, sym, ◌∙◌, ap}
use Rattle.kernel_model.specs.Signals.{Signals, discards}
use Rattle.pico_base.specs.Signal.{at}
use Rattle.signal_state.proofs.Actions.{with_action-held}
use Rattle.signal_state.proofs.signals.Signals.act.Goals as goal
use Rattle.signal_state.proofs.signals.Signals.act.Goals.{then-has, else-has}

stays : (c : goal.After-self-1)
    → c.if-has.stays ≡ (at c.self.inside.pending c.in-Is.sig && not (discards c.args.act c.in-Is.sig))
stays c =
    elim c.if-has.branch [
      | then-has w ↦
          let there : at c.self.inside.pending c.in-Is.sig ≡ true = sym c.has.ensures ∙ w.if-has.true in
          rw there (w.stays-is ∙ ap not w.discards.ensures)
      | else-has w ↦
          let absent : at c.self.inside.pending c.in-Is.sig ≡ false = sym c.has.ensures ∙ w.if-has.false in
          rw absent (w.stays-is ∙ w.if-has.false)
    ]

pub invariant_of-self : goal.invariant_of-self
invariant_of-self c =
    let s = c.self.inside in
    let before : Signals =
    record { actions = s.actions; mask = s.mask; pending = s.pending; handled = s.handled; doom = s.doom } in
    rw (c.set.ensures, c.with-self-inside.ensures, stays c)
    (with_action-held before c.in-Is.sig c.args.act (sym c.is_kill.ensures ∙ c.if-is_kill.false) c.self.invariant)
