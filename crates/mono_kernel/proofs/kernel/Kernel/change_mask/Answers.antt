use Rattle.std.proofs.Common.{◌≡◌, ◌∙◌, Some, sym, ap}
use Rattle.kernel_model.specs.Signals.{Signals, with_mask}
use Rattle.waiting_model.specs.Kernel.{living_at}
use Rattle.mono_kernel.proofs.SignalLemmas.{signals-land}
use Rattle.mono_kernel.proofs.kernel.Kernel.change_mask.Goals as goal

pub returns-clause-masked : goal.returns-clause-masked
returns-clause-masked c =
    let lives : living_at c.args.self.now c.args.pid ≡ Some c.in-Some.alive.now =
    rw (← c.self.view_is) (sym c.in-Some.ensures)
    in signals-land c.args.self.now c.change.new.self c.args.pid c.in-Some.alive.now
    (λ s. with_mask s c.args.how c.args.set)
    c.change_mask-old.new.self lives
    (c.change_mask-old.ensures.masked
    ∙ ap (λ (s : Signals). with_mask s c.args.how c.args.set) c.signals-signals.ensures)
    c.change.ensures
