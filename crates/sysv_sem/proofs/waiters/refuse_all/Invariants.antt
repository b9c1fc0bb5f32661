use Rattle.std.proofs.Common.{◌≤◌, length, vec_capacity}
use Rattle.pico_base.specs.declared.reply.Errno.TheVariants.{Eidrm}
use Rattle.pico_base.specs.declared.reply.Reply.TheVariants.{Fail}
use Rattle.waiting_model.specs.Waiters.{wake}
use Rattle.sysv_sem.proofs.Removed.{Refused}
use Rattle.sysv_sem.proofs.waiters.refuse_all.Given as goal

abbrev pub invariant-loop : goal.invariant-loop
invariant-loop l =
    record {
      refused : Refused (λ w. wake w (Fail Eidrm)) l.fn.waiters.nodes l.waiters.nodes l.wakes.items l.counter;
      room : length l.fn.waiters.nodes ≤ vec_capacity l.wakes;
    }
