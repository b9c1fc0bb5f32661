use Rattle.std.proofs.Common.{◌≡◌, ◌∙◌, sym, ap}
use Rattle.kernel_model.specs.Queue.{Queue}
use Rattle.waiting_model.specs.Waiters.{Awaited, awaited}
use Rattle.waiting_model.specs.Queue.{try_queue}
use Rattle.mono_kernel.proofs.SettleLemmas.{carried-replies}
use Rattle.mono_kernel.proofs.awaited_queue.AwaitedQueue.carry_out.Goals as goal

pub returns-clause-ok : goal.returns-clause-ok
returns-clause-ok c =
    let state : c.args.self.now.state ≡ c.reserve.new.self.queue =
    ap (λ (x : Awaited Queue). x.state) (sym c.self.view_is) ∙ sym c.reserve.ensures.same
    in let goes = ap (λ (q : Queue). try_queue q c.args.pid c.args.call.now) state
    ∙ ap (try_queue c.reserve.new.self.queue c.args.pid) (sym c.in_ok-mine.ensures) ∙ c.perform-reply.ensures.done
    in rw c.from_vec-woken.ensures
    (carried-replies try_queue c.args.self.now (awaited c.perform-reply.new.self.queue c.self.inside.waiters.items)
    c.settle.new.self c.args.pid c.args.call.now c.perform-reply.result c.settle.result.items goes
    (ap (λ (x : Awaited Queue). x.waiters) c.self.view_is) c.settle.ensures)
