use Rattle.std.proofs.Common.{◌∙◌, ap, sym}
use Rattle.kernel_model.specs.Signals.{Signals, raise}
use Rattle.waiting_model.specs.Kernel.{living_at}
use Rattle.number_maps.proofs.Order.{same-from-nat_eq}
use Rattle.mono_kernel.proofs.SignalLemmas.{signals-land, own-signal, some-of}
use Rattle.mono_kernel.proofs.kernel.Kernel.signal.Goals as goal

pub returns-then-eq : goal.returns-then-eq
returns-then-eq c =
    let there = some-of (living_at c.args.self.now c.args.pid) c.requires.lives
    in let its = rw there.1 at c.requires.its
    in own-signal c.args.self.now c.change.new.self c.args.caller c.args.pid c.args.sig
    (living_at c.args.self.now c.args.pid)
    (same-from-nat_eq c.args.caller c.args.pid (sym c.eq.ensures ∙ c.if-eq.true))
    (signals-land c.args.self.now c.change.new.self c.args.pid there.0
    (λ s. raise s c.args.sig) c.raise.new.self there.1
    (c.raise.ensures ∙ ap (λ (s : Signals). raise s c.args.sig) its) c.change.ensures)
