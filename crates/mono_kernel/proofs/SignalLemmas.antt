-- Other signals at a living process.
use Rattle.std.proofs.Common.{◌≡◌, ◌∙◌, ℕ, true, nat_eq, Option, Some, None, IsSome, IfSome, refl, ap, arith}
use Rattle.pico_base.specs.declared.signal.Sig.{Sig}
use Rattle.kernel_model.specs.Signals.{Signals, raise}
use Rattle.waiting_model.specs.Marks.{Alive}
use Rattle.waiting_model.specs.Kernel.{Kernel, living_at, with_alive}
use Rattle.waiting_model.specs.ProcessCalls.{with_signals}
use Rattle.mono_kernel.specs.declared.process.Change.TheVariants.{Signals as SetSignals}
use Rattle.mono_kernel.specs.Process.{after_change}
use Rattle.mono_kernel.specs.Answers.{signalled_kernel}

-- signals changed in place are signals of the kernel
pub signals-land : (k next : Kernel) (pid : ℕ) (b : Alive) (f : Signals → Signals) (s : Signals)
    → living_at k pid ≡ Some b → s ≡ f b.row.signals
    → IfSome (living_at k pid) (λ a. next ≡ with_alive k pid (after_change (SetSignals s) a))
    → IfSome (living_at k pid) (λ a. next ≡ with_signals k pid a (f a.row.signals))
signals-land k next pid b f s here is landed =
    rw here (here_at (rw here at landed) ∙ ap (with_signals k pid b) is)
  where
    here_at : next ≡ with_alive k pid (after_change (SetSignals s) b) → next ≡ with_signals k pid b s
    here_at h = h

-- a signal to oneself is raised, and not counted against what one may still do
pub own-signal : (k next : Kernel) (caller pid : ℕ) (g : Sig) (o : Option Alive) → caller ≡ pid
    → IfSome o (λ a. next ≡ with_signals k pid a (raise a.row.signals g))
    → IfSome o (λ a. next ≡ signalled_kernel k caller pid a g)
own-signal k next caller pid g None same h = tt
own-signal k next caller pid g (Some a) same h = let yes : nat_eq caller pid ≡ true = grind arith in rw yes h

-- what lives there, by its look-up
pub some-of : {X : Type 0} (o : Option X) → IsSome o → (x : X) × (o ≡ Some x)
some-of None h = absurd (cc)
some-of (Some x) h = (x, refl)
