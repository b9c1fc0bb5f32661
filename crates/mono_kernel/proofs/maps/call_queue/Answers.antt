use Rattle.std.proofs.Common.{sym}
use Rattle.std.proofs.lemmas.Result.{IfOk-weaker, on_err_weaker}
use Rattle.answer_laws.proofs.Landing.{same-lands}
use Rattle.mono_kernel.proofs.CarriedLemmas.{carried-lands}
use Rattle.mono_kernel.proofs.maps.call_queue.Goals as goal

pub returns-in-Some-clause-ok : goal.returns-in-Some-clause-ok
returns-in-Some-clause-ok c =
    IfOk-weaker c.carry_out.result _ _
    (λ done is. carried-lands _ c.args.queues.now.entries _ c.args.id c.in-Some.queue.now c.carry_out.new.self
    c.args.call.now
    done c.get_mut.ensures.ordered (sym c.in-Some.ensures.value) is (c.get_mut.follows.holds c.carry_out.new.self).0)
    c.carry_out.ensures.ok

pub returns-in-Some-clause-err : goal.returns-in-Some-clause-err
returns-in-Some-clause-err c =
    on_err_weaker c.carry_out.result
    (λ is. same-lands c.args.queues.now.entries _ c.args.id c.in-Some.queue.now c.carry_out.new.self
    (sym c.in-Some.ensures.value) is (c.get_mut.follows.holds c.carry_out.new.self).0)
    c.carry_out.ensures.err
