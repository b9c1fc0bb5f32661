use Rattle.std.proofs.Common.{◌≡◌, ◌≤◌, length, map, take, vec_capacity}
use Rattle.pico_base.specs.declared.reply.Errno.TheVariants.{Eidrm}
use Rattle.pico_base.specs.declared.reply.Reply.TheVariants.{Fail}
use Rattle.waiting_model.specs.Waiters.{wake}
use Rattle.waiter_fields.proofs.waiters.wakes_at_removal.Given as goal

abbrev pub invariant-loop-waiter : goal.invariant-loop-waiter
invariant-loop-waiter l =
    record {
      as_many : length l.wakes.items ≡ l.waiter-index;
      room : length l.waiters ≤ vec_capacity l.wakes;
      told : l.wakes.items ≡ map (λ w. wake w (Fail Eidrm)) (take l.waiter-index l.waiters);
    }
