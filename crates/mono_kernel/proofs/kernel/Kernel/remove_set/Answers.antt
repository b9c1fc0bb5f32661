use Rattle.std.proofs.Common.{◌∙◌, sym}
use Rattle.mono_kernel.proofs.EffectLemmas.{set-removed}
use Rattle.mono_kernel.proofs.kernel.Kernel.remove_set.Goals as goal

pub returns : goal.returns
returns c = λ call.
    rw (← c.self.view_is)
    (set-removed _ c.wake.new.self c.args.id c.in-Some.set.now call c.from_vec.result (sym c.in-Some.ensures.value)
    (c.from_vec.ensures ∙ c.in_ok-refusals.ensures)
    (rw (c.remove_at.ensures.removed, c.unbind.ensures) at c.wake.ensures))
