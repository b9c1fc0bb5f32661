use Rattle.std.proofs.Common.{◌∙◌, sym}
use Rattle.mono_kernel.proofs.EffectLemmas.{queue-removed}
use Rattle.mono_kernel.proofs.kernel.Kernel.remove_queue.Goals as goal

pub returns : goal.returns
returns c = λ call.
    rw (← c.self.view_is)
    (queue-removed _ c.wake.new.self c.args.id c.in-Some.queue.now call c.from_vec.result (sym c.in-Some.ensures.value)
    (c.from_vec.ensures ∙ c.in_ok-refusals.ensures)
    (rw (c.remove_at.ensures.removed, c.unbind.ensures) at c.wake.ensures))
