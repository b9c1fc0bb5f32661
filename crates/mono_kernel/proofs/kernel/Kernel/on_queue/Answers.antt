use Rattle.waiting_model.specs.Waiters.{waiter}
use Rattle.mono_kernel.proofs.EffectLemmas.{queue-done}
use Rattle.mono_kernel.proofs.kernel.Kernel.on_queue.Goals as goal

pub returns : goal.returns
returns c =
    rw (← c.self.view_is)
    (queue-done _ c.wake.new.self c.args.id (waiter c.args.pid c.args.call.now) c.args.call.now _ c.in_ok-done.done
    c.in_ok-done.ensures.ok c.wake.ensures)
