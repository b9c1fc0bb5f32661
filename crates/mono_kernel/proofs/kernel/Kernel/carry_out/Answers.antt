use Rattle.std.proofs.Common.{Some, Ok, refl, sym, ap}
use Rattle.pico_base.specs.declared.reply.Ending.TheVariants as endings
use Rattle.pico_base.specs.declared.reply.Reply.{Reply}
use Rattle.pico_base.specs.declared.reply.Reply.TheVariants as replies
use Rattle.number_maps.specs.Maps.{get}
use Rattle.kernel_model.specs.Signals.{act_on, with_mask}
use Rattle.waiting_model.specs.Waiters.{waiter}
use Rattle.waiting_model.specs.Kernel.{living_at}
use Rattle.waiting_model.specs.Effect.{on_named, reply_with, replying}
use Rattle.waiting_model.specs.ProcessCalls.{fork_effect, end_process, with_signals, action_effect, kill}
use Rattle.waiting_model.specs.QueueCalls.{get_queue, on_queue, remove_queue}
use Rattle.waiting_model.specs.SetCalls.{get_set, on_set, remove_set}
use Rattle.mono_kernel.proofs.FormLemmas.{by-effect, by-form, by-reply, both-are, there-is, of-call, anyway}
use Rattle.mono_kernel.proofs.kernel.Kernel.carry_out.Goals as goal

pub returns-in-Fork : goal.returns-in-Fork
returns-in-Fork c =
    by-reply c.args.self.now c.fork.new.self c.args.pid c.args.chosen c.args.call.now
    (λ a. fork_effect c.args.self.now c.args.pid a c.args.chosen)
    (λ a. by-form c.args.self.now (waiter c.args.pid c.args.call.now) a c.args.call.now _ c.args.chosen _
    c.in-Fork.is refl) (c.fork.result) c.of.result c.of.ensures
    (c.fork.ensures)

pub returns-in-GetPid : goal.returns-in-GetPid
returns-in-GetPid c =
    by-reply c.args.self.now c.args.self.now c.args.pid c.args.chosen c.args.call.now
    (λ a. Some (reply_with c.args.self.now c.args.pid))
    (λ a. by-form c.args.self.now (waiter c.args.pid c.args.call.now) a c.args.call.now _ c.args.chosen _
    c.in-GetPid.is refl)
    (Ok c.number_of.result) c.of-in-GetPid.result c.of-in-GetPid.ensures
    (anyway (living_at c.args.self.now c.args.pid) _
    (ap (λ (r : Reply). Some (replying c.args.self.now r)) (sym c.number_of.ensures)))

pub returns-in-Kill : goal.returns-in-Kill
returns-in-Kill c =
    by-reply c.args.self.now c.kill.new.self c.args.pid c.args.chosen c.args.call.now
    (λ a. Some (kill c.args.self.now c.args.pid c.in-Kill.target c.in-Kill.sig))
    (λ a. by-form c.args.self.now (waiter c.args.pid c.args.call.now) a c.args.call.now _ c.args.chosen _
    c.in-Kill.is refl) (Ok c.kill.result) c.of-in-Kill.result c.of-in-Kill.ensures
    (anyway (living_at c.args.self.now c.args.pid) _ (ap Some c.kill.ensures))

pub returns-in-SigAction : goal.returns-in-SigAction
returns-in-SigAction c =
    by-reply c.args.self.now c.act.new.self c.args.pid c.args.chosen c.args.call.now
    (λ a. Some (action_effect c.args.self.now c.args.pid a
    (act_on a.row.signals c.in-SigAction.sig c.in-SigAction.act)))
    (λ a. by-form c.args.self.now (waiter c.args.pid c.args.call.now) a c.args.call.now _ c.args.chosen _
    c.in-SigAction.is refl) (Ok c.act.result) c.of-in-SigAction.result c.of-in-SigAction.ensures
    (there-is (living_at c.args.self.now c.args.pid) _ _ c.act.ensures)

pub returns-in-MsgSnd : goal.returns-in-MsgSnd
returns-in-MsgSnd c =
    by-effect c.args.self.now c.on_queue.new.self c.args.pid c.args.chosen c.args.call.now
    (λ a. Some (on_queue c.args.self.now c.in-MsgSnd.id (waiter c.args.pid c.args.call.now)))
    (λ a. by-form c.args.self.now (waiter c.args.pid c.args.call.now) a c.args.call.now _ c.args.chosen _
    c.in-MsgSnd.is refl) c.on_queue.result
    (anyway (living_at c.args.self.now c.args.pid) _ c.on_queue.ensures)

pub returns-in-MsgRcv : goal.returns-in-MsgRcv
returns-in-MsgRcv c =
    by-effect c.args.self.now c.on_queue-in-MsgRcv.new.self c.args.pid c.args.chosen c.args.call.now
    (λ a. Some (on_queue c.args.self.now c.in-MsgRcv.id (waiter c.args.pid c.args.call.now)))
    (λ a. by-form c.args.self.now (waiter c.args.pid c.args.call.now) a c.args.call.now _ c.args.chosen _
    c.in-MsgRcv.is refl) c.on_queue-in-MsgRcv.result
    (anyway (living_at c.args.self.now c.args.pid) _ c.on_queue-in-MsgRcv.ensures)

pub returns-in-MsgStat : goal.returns-in-MsgStat
returns-in-MsgStat c =
    by-effect c.args.self.now c.on_queue-in-MsgStat.new.self c.args.pid c.args.chosen c.args.call.now
    (λ a. Some (on_queue c.args.self.now c.in-MsgStat.id (waiter c.args.pid c.args.call.now)))
    (λ a. by-form c.args.self.now (waiter c.args.pid c.args.call.now) a c.args.call.now _ c.args.chosen _
    c.in-MsgStat.is refl) c.on_queue-in-MsgStat.result
    (anyway (living_at c.args.self.now c.args.pid) _ c.on_queue-in-MsgStat.ensures)

pub returns-in-MsgSet : goal.returns-in-MsgSet
returns-in-MsgSet c =
    by-effect c.args.self.now c.on_queue-in-MsgSet.new.self c.args.pid c.args.chosen c.args.call.now
    (λ a. Some (on_queue c.args.self.now c.in-MsgSet.id (waiter c.args.pid c.args.call.now)))
    (λ a. by-form c.args.self.now (waiter c.args.pid c.args.call.now) a c.args.call.now _ c.args.chosen _
    c.in-MsgSet.is refl) c.on_queue-in-MsgSet.result
    (anyway (living_at c.args.self.now c.args.pid) _ c.on_queue-in-MsgSet.ensures)

pub returns-in-SemOp : goal.returns-in-SemOp
returns-in-SemOp c =
    by-effect c.args.self.now c.on_set.new.self c.args.pid c.args.chosen c.args.call.now
    (λ a. Some (on_set c.args.self.now c.in-SemOp.id (waiter c.args.pid c.args.call.now)))
    (λ a. by-form c.args.self.now (waiter c.args.pid c.args.call.now) a c.args.call.now _ c.args.chosen _
    c.in-SemOp.is refl) c.on_set.result
    (anyway (living_at c.args.self.now c.args.pid) _ c.on_set.ensures)

pub returns-in-SemGetVal : goal.returns-in-SemGetVal
returns-in-SemGetVal c =
    by-effect c.args.self.now c.on_set-in-SemGetVal.new.self c.args.pid c.args.chosen c.args.call.now
    (λ a. Some (on_set c.args.self.now c.in-SemGetVal.id (waiter c.args.pid c.args.call.now)))
    (λ a. by-form c.args.self.now (waiter c.args.pid c.args.call.now) a c.args.call.now _ c.args.chosen _
    c.in-SemGetVal.is refl) c.on_set-in-SemGetVal.result
    (anyway (living_at c.args.self.now c.args.pid) _ c.on_set-in-SemGetVal.ensures)

pub returns-in-SemGetPid : goal.returns-in-SemGetPid
returns-in-SemGetPid c =
    by-effect c.args.self.now c.on_set-in-SemGetPid.new.self c.args.pid c.args.chosen c.args.call.now
    (λ a. Some (on_set c.args.self.now c.in-SemGetPid.id (waiter c.args.pid c.args.call.now)))
    (λ a. by-form c.args.self.now (waiter c.args.pid c.args.call.now) a c.args.call.now _ c.args.chosen _
    c.in-SemGetPid.is refl) c.on_set-in-SemGetPid.result
    (anyway (living_at c.args.self.now c.args.pid) _ c.on_set-in-SemGetPid.ensures)

pub returns-in-SemGetNcnt : goal.returns-in-SemGetNcnt
returns-in-SemGetNcnt c =
    by-effect c.args.self.now c.on_set-in-SemGetNcnt.new.self c.args.pid c.args.chosen c.args.call.now
    (λ a. Some (on_set c.args.self.now c.in-SemGetNcnt.id (waiter c.args.pid c.args.call.now)))
    (λ a. by-form c.args.self.now (waiter c.args.pid c.args.call.now) a c.args.call.now _ c.args.chosen _
    c.in-SemGetNcnt.is refl) c.on_set-in-SemGetNcnt.result
    (anyway (living_at c.args.self.now c.args.pid) _ c.on_set-in-SemGetNcnt.ensures)

pub returns-in-SemGetZcnt : goal.returns-in-SemGetZcnt
returns-in-SemGetZcnt c =
    by-effect c.args.self.now c.on_set-in-SemGetZcnt.new.self c.args.pid c.args.chosen c.args.call.now
    (λ a. Some (on_set c.args.self.now c.in-SemGetZcnt.id (waiter c.args.pid c.args.call.now)))
    (λ a. by-form c.args.self.now (waiter c.args.pid c.args.call.now) a c.args.call.now _ c.args.chosen _
    c.in-SemGetZcnt.is refl) c.on_set-in-SemGetZcnt.result
    (anyway (living_at c.args.self.now c.args.pid) _ c.on_set-in-SemGetZcnt.ensures)

pub returns-in-SemSetVal : goal.returns-in-SemSetVal
returns-in-SemSetVal c =
    by-effect c.args.self.now c.on_set-in-SemSetVal.new.self c.args.pid c.args.chosen c.args.call.now
    (λ a. Some (on_set c.args.self.now c.in-SemSetVal.id (waiter c.args.pid c.args.call.now)))
    (λ a. by-form c.args.self.now (waiter c.args.pid c.args.call.now) a c.args.call.now _ c.args.chosen _
    c.in-SemSetVal.is refl) c.on_set-in-SemSetVal.result
    (anyway (living_at c.args.self.now c.args.pid) _ c.on_set-in-SemSetVal.ensures)

pub returns-in-SemGetAll : goal.returns-in-SemGetAll
returns-in-SemGetAll c =
    by-effect c.args.self.now c.on_set-in-SemGetAll.new.self c.args.pid c.args.chosen c.args.call.now
    (λ a. Some (on_set c.args.self.now c.in-SemGetAll.id (waiter c.args.pid c.args.call.now)))
    (λ a. by-form c.args.self.now (waiter c.args.pid c.args.call.now) a c.args.call.now _ c.args.chosen _
    c.in-SemGetAll.is refl) c.on_set-in-SemGetAll.result
    (anyway (living_at c.args.self.now c.args.pid) _ c.on_set-in-SemGetAll.ensures)

pub returns-in-SemSetAll : goal.returns-in-SemSetAll
returns-in-SemSetAll c =
    by-effect c.args.self.now c.on_set-in-SemSetAll.new.self c.args.pid c.args.chosen c.args.call.now
    (λ a. Some (on_set c.args.self.now c.in-SemSetAll.id (waiter c.args.pid c.args.call.now)))
    (λ a. by-form c.args.self.now (waiter c.args.pid c.args.call.now) a c.args.call.now _ c.args.chosen _
    c.in-SemSetAll.is refl) c.on_set-in-SemSetAll.result
    (anyway (living_at c.args.self.now c.args.pid) _ c.on_set-in-SemSetAll.ensures)

pub returns-in-MsgRmid : goal.returns-in-MsgRmid
returns-in-MsgRmid c =
    by-effect c.args.self.now c.remove_queue.new.self c.args.pid c.args.chosen c.args.call.now
    (λ a. Some (on_named c.args.self.now (get c.args.self.now.queues c.in-MsgRmid.id)
    (remove_queue c.args.self.now c.in-MsgRmid.id)))
    (λ a. by-form c.args.self.now (waiter c.args.pid c.args.call.now) a c.args.call.now _ c.args.chosen _
    c.in-MsgRmid.is refl) c.remove_queue.result
    (anyway (living_at c.args.self.now c.args.pid) _ (c.remove_queue.ensures c.args.call.now))

pub returns-in-SemRmid : goal.returns-in-SemRmid
returns-in-SemRmid c =
    by-effect c.args.self.now c.remove_set.new.self c.args.pid c.args.chosen c.args.call.now
    (λ a. Some (on_named c.args.self.now (get c.args.self.now.sets c.in-SemRmid.id)
    (remove_set c.args.self.now c.in-SemRmid.id)))
    (λ a. by-form c.args.self.now (waiter c.args.pid c.args.call.now) a c.args.call.now _ c.args.chosen _
    c.in-SemRmid.is refl) c.remove_set.result
    (anyway (living_at c.args.self.now c.args.pid) _ (c.remove_set.ensures c.args.call.now))

pub returns-in-Killed : goal.returns-in-Killed
returns-in-Killed c =
    by-effect c.args.self.now c.end-in-Killed.new.self c.args.pid c.args.chosen c.args.call.now
    (λ a. Some (end_process c.args.self.now c.args.pid a (endings.Killed c.in-Killed.sig)))
    (λ a. by-form c.args.self.now (waiter c.args.pid c.args.call.now) a c.args.call.now _ c.args.chosen _
    c.in-Killed.is refl) c.end-in-Killed.result
    (of-call (living_at c.args.self.now c.args.pid) _ c.args.call.now c.end-in-Killed.ensures)

pub returns-in-MsgGet : goal.returns-in-MsgGet
returns-in-MsgGet c =
    by-reply c.args.self.now c.get_queue.new.self c.args.pid c.args.chosen c.args.call.now
    (λ a. get_queue c.args.self.now c.in-MsgGet.key c.in-MsgGet.create c.in-MsgGet.excl c.args.chosen)
    (λ a. by-form c.args.self.now (waiter c.args.pid c.args.call.now) a c.args.call.now _ c.args.chosen _
    c.in-MsgGet.is refl) (c.get_queue.result) c.of-in-MsgGet.result c.of-in-MsgGet.ensures
    (anyway (living_at c.args.self.now c.args.pid) _ c.get_queue.ensures)

pub returns-in-SemGet : goal.returns-in-SemGet
returns-in-SemGet c =
    by-reply c.args.self.now c.get_set.new.self c.args.pid c.args.chosen c.args.call.now
    (λ a. get_set c.args.self.now c.in-SemGet.key c.in-SemGet.count c.in-SemGet.create c.in-SemGet.excl c.args.chosen)
    (λ a. by-form c.args.self.now (waiter c.args.pid c.args.call.now) a c.args.call.now _ c.args.chosen _
    c.in-SemGet.is refl) (c.get_set.result) c.of-in-SemGet.result c.of-in-SemGet.ensures
    (anyway (living_at c.args.self.now c.args.pid) _ c.get_set.ensures)

pub returns-in-SigProcMask : goal.returns-in-SigProcMask
returns-in-SigProcMask c =
    by-reply c.args.self.now c.change_mask.new.self c.args.pid c.args.chosen c.args.call.now
    (λ a. Some (replying
    (with_signals c.args.self.now c.args.pid a (with_mask a.row.signals c.in-SigProcMask.how c.in-SigProcMask.set))
    (replies.Bits a.row.signals.mask)))
    (λ a. by-form c.args.self.now (waiter c.args.pid c.args.call.now) a c.args.call.now _ c.args.chosen _
    c.in-SigProcMask.is refl)
    (Ok c.change_mask.result) c.of-in-SigProcMask.result c.of-in-SigProcMask.ensures
    (both-are (living_at c.args.self.now c.args.pid) _ _ _ _ c.change_mask.ensures.masked c.change_mask.ensures.reply)
