use Rattle.std.proofs.Common.{◌<◌, length, arith, rules}
use Rattle.waiting_model.specs.Queue.{try_queue}
use Rattle.waiter_fields.proofs.SettleLemmas.{settles-start, settles-more, settles-done, settles-out}
use Rattle.sysv_msg.proofs.awaiting.Awaiting.settle.Goals as goal

pub loop-round-init : goal.loop-round-init
loop-round-init c =
    record {
      as_many = rw c.requires.nobody;
      room = c.requires.room;
      settles = rw c.requires.nobody (settles-start try_queue c.args.self.now);
    }

pub loop-round-preserved : goal.loop-round-preserved
loop-round-preserved c =
    let wakes = rw c.in-Some.is at c.wake_first.ensures
    in let inside : c.loop-round.round < length c.args.self.now.waiters = omega (arith, c.len-all.ensures)
    in record {
      as_many = search rules;
      room = search rules;
      settles = rw c.push_reserved.ensures.items
          (settles-more try_queue c.args.self.now c.loop-round.self c.wake_first.new.self c.loop-round.wakes.items
          (length c.args.self.now.waiters) c.loop-round.round c.in-Some.wake inside c.loop-round.invariant.settles
          wakes);
    }

pub returns-in-None : goal.returns-in-None
returns-in-None c =
    let wakes = rw c.in-None.is at c.wake_first.ensures
    in settles-done try_queue c.args.self.now c.loop-round.self c.wake_first.new.self c.loop-round.wakes.items _
    c.loop-round.invariant.settles wakes

pub returns : goal.returns
returns c =
    settles-out try_queue c.args.self.now c.loop-round.self c.loop-round.wakes.items (length c.args.self.now.waiters)
    c.loop-round.round (omega (arith, c.len-all.ensures)) c.loop-round.invariant.settles
